use mathlib.Core.Path.{◌≡◌}
use Rattle.model.specs.Passes.{to_end}
use Rattle.records.specs.Read.{table}
use Rattle.propagator.proofs.letters.Letters.level_of.Given as goal

abbrev pub invariant-loop : goal.invariant-loop
invariant-loop l = l.level ≡ to_end (table l.self.moves.table) l.self.set l.within l.end l.counter
