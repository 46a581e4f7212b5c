use mathlib.Core.Path.{◌≡◌}
use lib.ListN.{drop}
use Rattle.records.specs.Read.{table}
use Rattle.propagator.proofs.Forth.{Passing}
use Rattle.propagator.proofs.known.Steps.go_ahead.Given as goal

abbrev pub invariant-loop-block : goal.invariant-loop-block
invariant-loop-block l = let moves = l.initial.self.letters.moves in record {
  same : l.self.letters.moves ≡ moves;
  passing : Passing (table moves.table) l.start l.blocks l.sets l.states l.entries l.at (drop l.block-index l.blocks);
}
