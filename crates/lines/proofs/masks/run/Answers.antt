-- `lines::masks::run` meets its contract.
use native.Mathlib.Omega.{arith}
use Rattle.lines.proofs.Running.{put_behind, running_done, running_more, running_last}
use Rattle.lines.proofs.masks.run.Goals as goal

pub returns-then-progress-gt-LAST : goal.returns-then-progress-gt-LAST
returns-then-progress-gt-LAST c = running_done c.loop-out.invariant.running (omega arith)

pub loop-out-preserved : goal.loop-out-preserved
loop-out-preserved c =
    let running = c.loop-out.invariant.running in
    let put = put_behind _ _ _ _ c.loop-out.progress.size _ running.filled c.copy_to.ensures in
    record { running = running_more running (rw (c.in-Some-Passed.is, c.in-Some-Passed.field-0-is) at c.next_line.ensures) put; full = c.loop-out.invariant.full }

pub returns-in-Some-Last : goal.returns-in-Some-Last
returns-in-Some-Last c =
    let running = c.loop-out.invariant.running in
    let put = put_behind _ _ _ _ c.loop-out.progress.size _ running.filled c.copy_to-in-Some-Last.ensures in
    running_last running (rw (c.in-Some-Last.is, c.in-Some-Last.field-0-is) at c.next_line.ensures) put
