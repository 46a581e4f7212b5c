use Rattle.std.proofs.Common.{◌+◌, ◌-◌, cond, length}
use Rattle.std.specs.Io.KnownBytes.{Consumes}
use Rattle.narrow_lines.specs.Held.{held, ended, NoFailure, Ends}
use Rattle.narrow_lines.proofs.begin.Given as goal

abbrev pub invariant-loop-size : goal.invariant-loop-size
invariant-loop-size g l =
    NoFailure l.input
    → Consumes (g.R.Read.remaining l.initial.reader) (g.R.Read.remaining l.reader) (held l.input) × Ends (ended l.input) (g.R.Read.remaining l.reader)

abbrev pub decreases-loop-size : goal.decreases-loop-size
decreases-loop-size g l = cond (ended l.input) 0 (1 + (65536 - length (held l.input)))
