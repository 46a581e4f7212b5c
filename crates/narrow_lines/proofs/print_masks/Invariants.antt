use Rattle.narrow_lines.specs.Held.{held, ended, NoFailure, Ends}
use Rattle.narrow_lines.proofs.Printing.{Going}
use Rattle.narrow_lines.proofs.print_masks.Given as goal

abbrev pub invariant-loop : goal.invariant-loop
invariant-loop g l = record {
  sound : NoFailure l.input → NoFailure l.initial.input;
  going : NoFailure l.input → Ends (ended l.initial.input) (g.R.Read.remaining l.initial.reader)
      → Going l.book 1 (held l.initial.input) (g.R.Read.remaining l.initial.reader) (g.W.Write.contents l.initial.writer)
      l.number (held l.input) (ended l.input) (g.R.Read.remaining l.reader) (g.W.Write.contents l.writer);
}
