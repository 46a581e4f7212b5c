use Prim.Native.Nat.{◌≤◌}
use lib.ListN.{length, take}
use Rattle.records.specs.Read.{table}
use Rattle.propagator.proofs.Returning.{Returning}
use Rattle.propagator.proofs.back.go_back.Given as goal

abbrev pub invariant-loop-i : goal.invariant-loop-i
invariant-loop-i l = let first = l.initial in record {
  room : l.at ≤ length l.blocks;
  returning : Returning (table l.moves.table) first.row.first l.end (take l.count first.blocks) l.blocks l.row.first l.row.sets.now l.kept l.at l.i;
}
