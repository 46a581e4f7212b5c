-- The totals of a mask's blocks gathered from block after block, and what check 9 asks of them.
-- Assumes nothing.
use Rattle.std.proofs.Common.{◌≡◌, ℕ, zero, suc, ◌+◌, ◌<◌, Bool, true, false, ◌||◌, ltb, Ok, Err, List, [], ◌∷◌, ◌++◌, refl, add-one, arith}
use Rattle.std.proofs.lemmas.Bool.Decides.{nat_tests}
use Rattle.model.specs.declared.Block.{Block}
use Rattle.model.specs.declared.Refusal.{Refusal}
use Rattle.model.specs.declared.Refusal.TheVariants.{Crossed, Uppers}
use Rattle.model.specs.Refusal.{accepted, refuse, unless}
use Rattle.model.specs.Set.{either, some_from}
use Rattle.model.specs.DashedString.{values}
use Rattle.model.specs.Size.{uppers}
use Rattle.model.proofs.Set.{in_none, in_either}
use Rattle.bitset.proofs.Laws.{some_from_lem}
use Rattle.records.specs.declared.totals.Totals.{Totals}
use Rattle.records.specs.Check.{some}
use Rattle.records.specs.Mask.{crossed, blocks_refusal, with_letters, read_blocks, foreign}
use Rattle.records.specs.Gathered.{with_block}
use Rattle.records.proofs.Checks.{some_more}
use Rattle.records.proofs.Stores.{values_more}

-- with one block more at the end
module _ (x : Block) where
  uppers_more : (xs : List Block) → uppers (xs ++ x ∷ []) ≡ uppers xs + x.upper
  uppers_more [] = omega arith
  uppers_more (y ∷ xs) = omega (arith, uppers_more xs)

  letters_more : (s : ℕ) (xs : List Block) → with_letters s (xs ++ x ∷ []) ≡ either (with_letters s xs) x.base
  unfolding with_letters
  letters_more s [] = refl
  letters_more s (y ∷ xs) = letters_more (either s y.base) xs

-- one value that passes the test
some_value : (p : Block → Bool) (f : ℕ → Block) (k i : ℕ) → i < k → p (f i) ≡ true → some p (values f k) ≡ true
unfolding some
some_value p f zero i h e = grind arith
some_value p f (suc k) zero h e = grind arith
some_value p f (suc k) (suc i) h e = grind (arith, some_value p (λ j. f (suc j)) k i)

-- what one block more adds, or why it is refused
pub block_taken : (m n : Totals) (x : Block) → with_block m x ≡ Ok n
    → (crossed x ≡ false) × (n ≡ record { uppers = m.uppers + x.upper; used = either m.used x.base })
unfolding refuse
block_taken m n x e = grind (arith, nat_tests)

block_refused : (m : Totals) (x : Block) (r : Refusal) → with_block m x ≡ Err r → (crossed x ≡ true) × (r ≡ Crossed)
unfolding refuse
block_refused m x r e = grind (arith, nat_tests)

-- the totals of blocks of which none is crossed
pub record Gathered (xs : List Block) (m : Totals) : Type 0 where
  pub totals : m ≡ record { uppers = uppers xs; used = with_letters 0 xs }
  pub bounds : some crossed xs ≡ false

-- of none
pub gathered_starts : Gathered [] (record { uppers = 0; used = 0 })
unfolding some with_letters
gathered_starts = record { totals = refl; bounds = refl }

-- of one more
gathered_one : (xs : List Block) (m n : Totals) (x : Block) → Gathered xs m → with_block m x ≡ Ok n → Gathered (xs ++ x ∷ []) n
gathered_one xs m n x gathered e =
    let (passed, same) = block_taken m n x e in
    record {
      totals = rw (same, gathered.totals, uppers_more x xs, letters_more x 0 xs);
      bounds = rw (some_more crossed xs x, gathered.bounds, passed);
    }

module _ (f : ℕ → Block) (i : ℕ) (m : Totals) (gathered : Gathered (values f i) m) where
  pub gathered_more : (n : Totals) → with_block m (f i) ≡ Ok n → Gathered (values f (i + 1)) n
  gathered_more n e = rw (add-one i, values_more f i) (gathered_one (values f i) m n (f i) gathered e)

  -- the next is crossed
  pub gathered_crossed : (count : ℕ) (r : Refusal) → i < count → with_block m (f i) ≡ Err r → Err r ≡ read_blocks (values f count)
  unfolding refuse blocks_refusal read_blocks
  gathered_crossed count r h e =
      let (fails, same) = block_refused m (f i) r e in
      rw (same, some_value crossed f count i h fails)

  -- of all: check 8 decides
  pub gathered_ends : (count : ℕ) → i ≡ count → unless (refuse (ltb 1024 m.uppers) Uppers accepted) m ≡ read_blocks (values f count)
  unfolding refuse blocks_refusal read_blocks
  gathered_ends count e = rw (gathered.totals, ← e, gathered.bounds)

-- some member of either set is m or above
from_either : (s t m : ℕ) → some_from (either s t) m ≡ (some_from s m || some_from t m)
from_either s t m = grind (arith, nat_tests, some_from_lem, in_either)

-- a letter that is m or above is in a set, or in that of some block
with_foreign : (m s : ℕ) (xs : List Block) → some_from (with_letters s xs) m ≡ (some_from s m || foreign m xs)
unfolding some foreign with_letters
with_foreign m s [] = grind arith
with_foreign m s (x ∷ xs) = grind (arith, with_foreign m (either s x.base) xs, from_either)

-- check 9, by the letters that some set has
pub used_foreign : (m : ℕ) (xs : List Block) → some_from (with_letters 0 xs) m ≡ foreign m xs
used_foreign m xs = grind (arith, with_foreign m 0 xs, some_from_lem, in_none)
