use mathlib.Core.Path.{◌≡◌}
use Rattle.records.specs.Read.{table}
use Rattle.propagator.proofs.Forth.{Filling}
use Rattle.propagator.proofs.known.Steps.fill_places.Given as goal

abbrev pub invariant-loop-j : goal.invariant-loop-j
invariant-loop-j l = let letters = l.initial.self.letters in record {
  same : l.self.letters ≡ letters;
  filling : Filling (table letters.moves.table) letters.set l.from l.place-items l.set l.j;
}
