-- `operations::answer::write_answer` meets its contract.
use native.Mathlib.Omega.{arith}
use Rattle.operations.proofs.Putting.{put_short, put_written}
use Rattle.operations.proofs.answer.write_answer.Goals as goal

pub returns-then-out-blocks : goal.returns-then-out-blocks
returns-then-out-blocks c = put_short _ _ c.if-out-blocks.true

pub returns : goal.returns
returns c = put_written _ _ _ _ (omega arith) c.write_mask.ensures.size c.write_mask.ensures.written
