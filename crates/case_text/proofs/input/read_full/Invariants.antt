use Rattle.std.proofs.Common.{◌-◌, ◌≤◌, length}
use Rattle.case_text.proofs.input.read_full.Given as goal

abbrev pub invariant-loop-size : goal.invariant-loop-size
invariant-loop-size g l = l.size ≤ length l.room

abbrev pub decreases-loop-size : goal.decreases-loop-size
decreases-loop-size g l = length l.initial.room - l.size
