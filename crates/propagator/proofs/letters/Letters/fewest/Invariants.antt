use Rattle.records.specs.Read.{table}
use Rattle.propagator.proofs.Levels.{Searching}
use Rattle.propagator.proofs.letters.Letters.fewest.Given as goal

abbrev pub invariant-loop-height : goal.invariant-loop-height
invariant-loop-height l = Searching (table l.self.moves.table) l.self.set l.within l.end l.from l.width l.level l.height
