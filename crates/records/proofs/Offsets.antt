-- The blocks of a record: how many there are, and which bytes block j is.
-- Assumes nothing.
use Rattle.std.proofs.Common.{◌≡◌, ℕ, zero, suc, ◌+◌, ◌-◌, ◌*◌, ◌/◌, ◌<◌, ◌≤◌, List, [], ◌∷◌, length, take, drop, refl, sym, ap, ◌∙◌, add-suc, add_assoc, arith, length-take, length-drop, get_or-take, get_or-drop}
use Rattle.model.specs.DashedString.{block_at}
use Rattle.records.specs.Bytes.{number_at}
use Rattle.records.specs.Mask.{count, block_from, blocks_from, mask_of}

-- as many blocks as asked for
pub length_blocks : (k : ℕ) (bs : List ℕ) (i : ℕ) → length (blocks_from k bs i) ≡ k
unfolding blocks_from
length_blocks zero bs i = refl
length_blocks (suc k) bs i = ap suc (length_blocks k bs (i + 12))

-- a mask has as many blocks as its record says
pub blocks_counted : (bs : List ℕ) → length (mask_of bs) ≡ count bs
unfolding mask_of
blocks_counted bs = length_blocks (count bs) bs 6

-- block j is the 12 bytes behind j blocks
pub block_at_lem : (k : ℕ) (bs : List ℕ) (i j : ℕ) → j < k → block_at (blocks_from k bs i) j ≡ block_from bs (i + 12 * j)
unfolding blocks_from
block_at_lem zero bs i j h = absurd (omega arith)
block_at_lem (suc k) bs i zero h = ap (block_from bs) (omega arith)
block_at_lem (suc k) bs i (suc j) h = rw (block_at_lem k bs (i + 12) j (omega arith)) (ap (block_from bs) (omega arith))

-- block i of a mask
pub block_of_mask : (bs : List ℕ) (i : ℕ) → i < count bs → block_from bs (6 + 12 * i) ≡ block_at (mask_of bs) i
unfolding mask_of
block_of_mask bs i h = sym (block_at_lem (count bs) bs 6 i h)

-- a number among the first n bytes, and one behind them
number_taken : (k n : ℕ) (bs : List ℕ) (i : ℕ) → i + k ≤ n → number_at k (take n bs) i ≡ number_at k bs i
unfolding number_at
number_taken zero n bs i h = refl
number_taken (suc k) n bs i h = rw (get_or-take n bs i 0 (omega arith), number_taken k n bs (suc i) (omega arith))

number_dropped : (k n : ℕ) (bs : List ℕ) (i : ℕ) → number_at k (drop n bs) i ≡ number_at k bs (n + i)
unfolding number_at
number_dropped zero n bs i = refl
number_dropped (suc k) n bs i = rw (get_or-drop n bs i 0, number_dropped k n bs (suc i), add-suc n i)

-- and so blocks
blocks_taken : (k n : ℕ) (bs : List ℕ) (i : ℕ) → i + 12 * k ≤ n → blocks_from k (take n bs) i ≡ blocks_from k bs i
unfolding block_from blocks_from
blocks_taken zero n bs i h = refl
blocks_taken (suc k) n bs i h =
    rw (number_taken 8 n bs i (omega arith), number_taken 2 n bs (i + 8) (omega arith), number_taken 2 n bs (i + 10) (omega arith), blocks_taken k n bs (i + 12) (omega arith))

blocks_dropped : (k n : ℕ) (bs : List ℕ) (i : ℕ) → blocks_from k (drop n bs) i ≡ blocks_from k bs (n + i)
unfolding block_from blocks_from
blocks_dropped zero n bs i = refl
blocks_dropped (suc k) n bs i =
    rw (number_dropped 8 n bs i, number_dropped 2 n bs (i + 8), number_dropped 2 n bs (i + 10), blocks_dropped k n bs (i + 12), add_assoc, add_assoc, add_assoc)

-- the blocks behind the head, in the part that is lent of it
pub blocks_behind_head : (bs : List ℕ) (k : ℕ) → k ≡ count bs → 6 + 12 * k ≤ length bs
    → blocks_from (length (take (6 + 12 * k - 6) (drop 6 bs)) / 12) (take (6 + 12 * k - 6) (drop 6 bs)) 0 ≡ mask_of bs
unfolding mask_of
blocks_behind_head bs k e h =
    let same : 6 + 12 * k - 6 ≡ 12 * k = omega arith in
    let size : length (take (12 * k) (drop 6 bs)) / 12 ≡ k = omega (arith, length-take (12 * k) (drop 6 bs), length-drop 6 bs) in
    rw (same, size, ← e) (blocks_taken k (12 * k) (drop 6 bs) 0 (omega arith) ∙ blocks_dropped k 6 bs 0)

-- the first block of the bytes that are left, and the rest
pub first_block : (bs : List ℕ) → 12 ≤ length bs
    → blocks_from (length bs / 12) bs 0 ≡ block_from (take 12 bs) 0 ∷ blocks_from (length (drop 12 bs) / 12) (drop 12 bs) 0
unfolding block_from blocks_from
first_block bs h =
    let some : length bs / 12 ≡ suc (length (drop 12 bs) / 12) = omega (arith, length-drop 12 bs) in
    rw (some, number_taken 8 12 bs 0 (omega arith), number_taken 2 12 bs 8 (omega arith), number_taken 2 12 bs 10 (omega arith), blocks_dropped _ 12 bs 0)

-- no block of fewer bytes
pub no_block : (bs : List ℕ) → length bs < 12 → blocks_from (length bs / 12) bs 0 ≡ []
unfolding blocks_from
no_block bs h = let none : length bs / 12 ≡ 0 = omega arith in rw none
