use mathlib.Core.Path.{◌≡◌}
use Rattle.records.specs.Read.{table}
use Rattle.propagator.proofs.Remembered.{Stepping}
use Rattle.propagator.proofs.known.Steps.step_by_states.Given as goal

abbrev pub invariant-loop-q : goal.invariant-loop-q
invariant-loop-q l = let letters = l.initial.self.letters in record {
  same : l.self.letters ≡ letters;
  stepping : Stepping (table letters.moves.table) letters.set l.from l.q-iterator l.found;
}
