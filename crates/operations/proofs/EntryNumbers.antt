-- The numbers of the entries of the narrowed list.
-- Assumes nothing.
use Prim.Native.Nat.{ℕ, zero, suc, ◌+◌, ◌^◌, ◌≤◌, ◌<◌}
use mathlib.Core.Path.{◌≡◌, refl}
use mathlib.Core.List.{List, [], ◌∷◌, map}
use native.Mathlib.Omega.{arith}
use lib.ListN.{length, take}
use Rattle.std.specs.List.{sum, sum_by}
use Rattle.std.proofs.lemmas.List.Sums.{sum-map, sum_by-cons}
use Rattle.model.specs.declared.Block.{Block}
use Rattle.model.specs.DashedString.{block_at}
use Rattle.model.specs.Place.{begins, entry_of}
use Rattle.model.specs.Size.{Fits, lower_sum}
use Rattle.operations.proofs.Passing.{passes_fit}

-- a block's entries lie within the list
begins_within : (xs : List Block) (i : ℕ) → i < length xs → begins xs i + suc (block_at xs i).lower ≤ lower_sum xs + length xs
unfolding lower_sum
begins_within [] i h = absurd (omega arith)
begins_within (x ∷ xs) zero h = omega arith
begins_within (x ∷ xs) (suc i) h = omega (arith, begins_within xs i (omega arith))

-- and so does the entry of a place
pub entry_within : (xs : List Block) (i j : ℕ) → i < length xs → j ≤ (block_at xs i).lower → entry_of xs i j < lower_sum xs + length xs
entry_within xs i zero h l = omega (arith, begins_within xs i h)
entry_within xs i (suc j) h l = omega (arith, begins_within xs i h)

-- ---- counting the entries of blocks

-- the entries of a block: its places, and its optional part
abbrev pub entries_of : Block → ℕ
entries_of x = x.lower + 1

-- the first i blocks have as many as the sum says
pub begins_sum : (xs : List Block) (i : ℕ) → sum_by entries_of (take i xs) ≡ begins xs i
begins_sum [] zero = refl
begins_sum [] (suc i) = refl
begins_sum (x ∷ xs) zero = refl
begins_sum (x ∷ xs) (suc i) = omega (arith, sum_by-cons entries_of x (take i xs), begins_sum xs i)

-- blocks that fit
module _ (m : ℕ) (xs : List Block) (fits : Fits m xs) where
  -- block i, and how many entries the blocks before it have
  module _ (i first : ℕ) (x : Block) (h : i < length xs) (begin : first ≡ begins xs i) (is : x ≡ block_at xs i) where
    -- with its own these are few
    pub entries_few : first + (x.lower + 1) ≤ 2048
    entries_few =
        let inside = rw (← begin, ← is) at (begins_within xs i h) in
        omega (arith, inside, (passes_fit m xs fits).0, fits.few, fits.room.sum)

  -- where the entries of a block begin is a small number
  pub begins_few : (i : ℕ) → i < length xs → sum (map entries_of (take i xs)) < 2 ^ 64
  begins_few i h =
      let few = entries_few i _ _ h refl refl in
      rw (sum-map entries_of (take i xs), begins_sum) (omega (arith, few))
