-- The sums of the bounds of a record's blocks, and the line of nothing.
-- Assumes nothing.
use Prim.Native.Nat.{ℕ, ◌≤◌}
use mathlib.Core.Path.{◌≡◌, refl}
use mathlib.Core.List.{List, [], ◌∷◌}
use native.Mathlib.Omega.{arith}
use lib.ListN.{length}
use Rattle.model.specs.declared.Block.{Block}
use Rattle.model.specs.declared.Verdict.{Verdict}
use Rattle.model.specs.DashedString.{Each, Bounded}
use Rattle.model.specs.Size.{lower_sum, uppers}
use Rattle.records.specs.Bytes.{number_at}
use Rattle.records.specs.Mask.{mask_of, blocks_from}
use Rattle.model.specs.Verdict.{word}
use Rattle.lines.specs.Line.{line, verdict_line}

-- the lower bounds sum to no more than the upper ones
pub lowers_few : (xs : List Block) → Each Bounded xs → lower_sum xs ≤ uppers xs
unfolding lower_sum
lowers_few [] h = omega arith
lowers_few (x ∷ xs) (h, hs) = omega (arith, lowers_few xs hs)

-- nothing is a mask of no blocks
nothing_mask : (rs : List ℕ) → length rs ≡ 0 → mask_of rs ≡ []
unfolding mask_of blocks_from number_at
nothing_mask [] e = refl
nothing_mask (x ∷ rs) e = absurd (omega arith)

-- so its line has no number but 0
pub nothing_line : (rs : List ℕ) (n : ℕ) (v : Verdict) → length rs ≡ 0 → line n (word v) 0 0 0 ≡ verdict_line n v (mask_of rs)
unfolding lower_sum
nothing_line rs n v e = rw (nothing_mask rs e)
