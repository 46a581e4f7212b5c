use Rattle.std.proofs.Common.{◌≡◌, ℕ, ◌*◌, ◌<◌, ◌≤◌}
use Rattle.model.specs.declared.Block.{Block}
use Rattle.model.specs.DashedString.{values}
use Rattle.records.proofs.Taking.{Gathered}
use Rattle.records.proofs.gather.totals_of.Given as goal

abbrev pub invariant-loop-i : goal.invariant-loop-i
invariant-loop-i g l =
    (l.totals.uppers ≤ 65536 * l.i)
    × ((f : ℕ → Block) → ((i : ℕ) (x : Block) → i < l.count → goal.F-post g l.block_at i x → x ≡ f i) → Gathered (values f l.i) l.totals)
