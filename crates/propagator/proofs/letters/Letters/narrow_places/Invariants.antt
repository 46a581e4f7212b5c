use lib.ListN.{length}
use Rattle.std.specs.Option.{IfSome}
use Rattle.records.specs.Read.{table}
use Rattle.propagator.specs.Rows.{Becomes}
use Rattle.propagator.proofs.Placing.{Placing}
use Rattle.propagator.proofs.letters.Letters.narrow_places.Given as goal

abbrev pub invariant-loop-j : goal.invariant-loop-j
invariant-loop-j l = let t = table l.self.moves.table in record {
  last : IfSome l.last (λ kept. Becomes t l.self.set kept.from kept.to kept);
  placing : Placing t l.self.set l.row.first l.end (length l.initial.entries) l.entries l.states l.j;
}
