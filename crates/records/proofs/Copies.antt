-- The blocks of a mask by their numbers, and their copies.
-- Assumes nothing.
use Rattle.std.proofs.Common.{◌≡◌, ℕ, ◌+◌, ◌<◌, List, [], ◌∷◌, length, take, set, refl, ◌∙◌, ap, add-one, arith, take_all, take-suc}
use Rattle.std.proofs.lemmas.List.{take_more_set}
use Rattle.model.specs.declared.Block.{Block}
use Rattle.model.specs.DashedString.{block, block_at, values}
use Rattle.records.specs.Mask.{count, mask_of}
use Rattle.records.proofs.Offsets.{blocks_counted}

-- blocks, by their numbers
pub values_all : (xs : List Block) → values (block_at xs) (length xs) ≡ xs
values_all [] = refl
values_all (x ∷ xs) = ap (◌∷◌ x) (values_all xs)

-- the blocks of a mask, by their numbers
pub record_values : (bs : List ℕ) → values (block_at (mask_of bs)) (count bs) ≡ mask_of bs
record_values bs = rw (blocks_counted bs) at (values_all (mask_of bs))

-- one block more is copied
pub copied_more : (xs ys : List Block) (i : ℕ) → i < length ys → i < length xs → take i ys ≡ take i xs
    → take (i + 1) (set ys i (block_at xs i)) ≡ take (i + 1) xs
copied_more xs ys i h l e = take_more_set ys i (block_at xs i) h ∙ rw (e, add-one i, take-suc xs i (block 0 0 0) l)

-- all are copied
pub copied_all : (xs ys : List Block) (i : ℕ) → i ≡ length xs → take i ys ≡ take i xs → take (length xs) ys ≡ xs
copied_all xs ys i s e = rw (← s) (e ∙ take_all i xs (omega arith))
