-- `operations::answer::write_tidied` meets its contract.
use native.Mathlib.Omega.{arith}
use Rattle.operations.proofs.Joining.{joined_counted}
use Rattle.operations.proofs.Tidying.{tidied_short, tidied_written}
use Rattle.operations.proofs.answer.write_tidied.Goals as goal

pub returns-then-out-count : goal.returns-then-out-count
returns-then-out-count c = tidied_short _ _ (joined_counted _ _ c.of.ensures _ c.count-count.ensures.ran) _ c.if-out-count.true

pub returns : goal.returns
returns c =
    tidied_written _ _ (joined_counted _ _ c.of.ensures _ c.count-count.ensures.ran) _ _ _ (omega arith) c.write_head.ensures c.write_joined.ensures
