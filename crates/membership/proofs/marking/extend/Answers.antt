-- `membership::marking::extend` meets its contract.
use Rattle.std.proofs.Common.{arith}
use Rattle.membership.proofs.Pass.{ends_here}
use Rattle.membership.proofs.marking.extend.Goals as goal

pub loop-j-preserved : goal.loop-j-preserved
loop-j-preserved c = grind (arith, ends_here)

pub returns-2 : goal.returns-2
returns-2 c = grind (arith, ends_here)
