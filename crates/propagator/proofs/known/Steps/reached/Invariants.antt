use mathlib.Core.Path.{◌≡◌}
use Rattle.records.specs.Read.{table}
use Rattle.propagator.proofs.Rounds.{Reaching}
use Rattle.propagator.proofs.known.Steps.reached.Given as goal

abbrev pub invariant-loop : goal.invariant-loop
invariant-loop l = let letters = l.initial.self.letters in record {
  same : l.self.letters ≡ letters;
  reaching : Reaching (table letters.moves.table) letters.set l.from l.all l.front l.counter;
}
