use mathlib.Core.Path.{◌≡◌}
use Rattle.records.specs.Read.{table}
use Rattle.propagator.proofs.Remembered.{Imaging}
use Rattle.propagator.proofs.known.Steps.step_by_letters.Given as goal

abbrev pub invariant-loop-c : goal.invariant-loop-c
invariant-loop-c l = let letters = l.initial.self.letters in record {
  same : l.self.letters ≡ letters;
  from : l.self.from ≡ l.initial.self.from;
  imaging : Imaging (table letters.moves.table) letters.set l.initial.self.from l.c-iterator l.found;
}
