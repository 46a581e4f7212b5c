-- `membership::spells` meets its contract.
use Rattle.std.proofs.Common.{refl, arith, rules}
use Rattle.membership.proofs.Comparing.{marks_start}
use Rattle.membership.proofs.spells.Goals as goal

pub loop-block-init : goal.loop-block-init
loop-block-init c = record { from_size = refl; to_size = refl; order = search rules; exact = marks_start _ 1025 (omega arith) }
