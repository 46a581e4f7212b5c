-- What is written of a mask reads back as the same mask.
-- Assumes nothing.
use Rattle.std.proofs.Common.{◌≡◌, ℕ, zero, suc, ◌+◌, ◌*◌, ◌/◌, ◌^◌, ◌<◌, false, List, [], ◌∷◌, ◌++◌, length, refl, ◌∙◌, ap₂, add_assoc, arith}
use Rattle.model.specs.declared.Block.{Block}
use Rattle.model.specs.Refusal.{accepted}
use Rattle.model.specs.DashedString.{block, Bounded}
use Rattle.model.specs.Size.{WellFormed, Room, Fits}
use Rattle.records.specs.Bytes.{Bytes, number_at, bytes_of}
use Rattle.records.specs.Mask.{count, block_from, blocks_from, mask_of, mask_refusal, foreign}
use Rattle.records.specs.WellFormed.{MaskRecord}
use Rattle.records.specs.Written.{block_bytes, blocks_bytes, head_bytes, mask_bytes}
use Rattle.records.proofs.Numbers.{number_behind, number_bytes}
use Rattle.records.proofs.Checks.{each_map}
use Rattle.records.proofs.WellFormed.{record_mask, Native, none_foreign}

-- each block is written in 12 bytes
pub length_blocks_bytes : (xs : List Block) → length (blocks_bytes xs) ≡ 12 * length xs
unfolding bytes_of block_bytes blocks_bytes
length_blocks_bytes [] = refl
length_blocks_bytes (x ∷ xs) = omega (arith, length_blocks_bytes xs)

-- a mask is written in 6 bytes, and 12 for each block
pub length_mask : (xs : List Block) → length (mask_bytes xs) ≡ 6 + 12 * length xs
unfolding bytes_of head_bytes mask_bytes
length_mask xs = omega (arith, length_blocks_bytes xs)

-- blocks behind a list are read at an offset
blocks_behind : (k : ℕ) (p q : List ℕ) (i : ℕ) → blocks_from k (p ++ q) (length p + i) ≡ blocks_from k q i
unfolding block_from blocks_from
blocks_behind zero p q i = refl
blocks_behind (suc k) p q i = simp (add_assoc, number_behind, blocks_behind k p q)

-- the block of three numbers, by what they equal
same : (x : Block) (S l u : ℕ) → S ≡ x.base → l ≡ x.lower → u ≡ x.upper → block S l u ≡ x
same x S l u a b c = rw (a, b, c)

-- a block that was written is read
block_back : (x : Block) (r : List ℕ) → x.base < 256 ^ 8 → x.lower < 256 ^ 2 → x.upper < 256 ^ 2 → block_from (block_bytes x ++ r) 0 ≡ x
unfolding number_at bytes_of block_bytes block_from
block_back x r b l u = same x _ _ _ (number_bytes 8 x.base [] b) (number_bytes 2 x.lower [] l) (number_bytes 2 x.upper [] u)

-- blocks that were written are read
blocks_back : (m : ℕ) (xs : List Block) → Room m xs → blocks_from (length xs) (blocks_bytes xs) 0 ≡ xs
unfolding bytes_of block_bytes blocks_bytes blocks_from
blocks_back m [] h = refl
blocks_back m (x ∷ xs) h =
    let (f, fs) = h.each in
    ap₂ ◌∷◌ (block_back x (blocks_bytes xs) f.bytes (omega arith) (omega arith))
    (blocks_behind (length xs) (block_bytes x) (blocks_bytes xs) 0 ∙ blocks_back m xs (record { each = fs; sum = omega arith }))

-- a mask that fits
module _ (m : ℕ) (xs : List Block) (h : Fits m xs) where
  -- is read with its number of blocks
  count_back : count (mask_bytes xs) ≡ length xs
  unfolding number_at bytes_of head_bytes mask_bytes
  count_back = omega arith

  -- and with its blocks
  mask_back : mask_of (mask_bytes xs) ≡ xs
  unfolding bytes_of head_bytes mask_bytes mask_of
  mask_back = rw count_back (blocks_behind (length xs) (head_bytes (length xs)) (blocks_bytes xs) 0 ∙ blocks_back m xs h.room)

  -- and passes the checks
  record_back : MaskRecord (mask_bytes xs)
  unfolding number_at bytes_of head_bytes mask_bytes
  record_back =
      record {
        framed = omega (arith, length_mask xs);
        kind = refl;
        few = omega (arith, count_back);
        size = omega (arith, count_back, length_mask xs);
        bounds = rw mask_back (each_map (WellFormed m) Bounded (λ x f. f.bounds) xs h.room.each);
        sum = rw mask_back h.room.sum;
      }

-- a mask that fits, written and read: not refused, the same, and no letter m or above
pub reads_back : (m : ℕ) (xs : List Block) → Fits m xs
    → (mask_refusal (mask_bytes xs) ≡ accepted) × (mask_of (mask_bytes xs) ≡ xs) × (foreign m (mask_of (mask_bytes xs)) ≡ false)
reads_back m xs h = (
  record_mask (mask_bytes xs) (record_back m xs h),
  mask_back m xs h,
  rw (mask_back m xs h) ((none_foreign m xs).1 (each_map (WellFormed m) (Native m) (λ x f. f.letters) xs h.room.each)),
)

-- ---- what is written is bytes

-- two lists of bytes, one behind the other, are bytes
bytes_append : (p q : List ℕ) → Bytes p → Bytes q → Bytes (p ++ q)
bytes_append [] q a b i = b i
bytes_append (x ∷ p) q a b zero = a zero
bytes_append (x ∷ p) q a b (suc i) = bytes_append p q (λ j. a (suc j)) b i

-- the bytes of a number are bytes
bytes_number : (k x : ℕ) → Bytes (bytes_of k x)
unfolding bytes_of
bytes_number zero x i = omega arith
bytes_number (suc k) x zero = omega arith
bytes_number (suc k) x (suc i) = bytes_number k (x / 256) i

-- and so are those of three numbers
bytes_three : (j x k y l z : ℕ) → Bytes (bytes_of j x ++ bytes_of k y ++ bytes_of l z)
bytes_three j x k y l z =
    bytes_append (bytes_of j x ++ bytes_of k y) (bytes_of l z) (bytes_append (bytes_of j x) (bytes_of k y) (bytes_number j x) (bytes_number k y)) (bytes_number l z)

-- of blocks
bytes_blocks : (xs : List Block) → Bytes (blocks_bytes xs)
unfolding block_bytes blocks_bytes
bytes_blocks [] i = omega arith
bytes_blocks (x ∷ xs) i = bytes_append (block_bytes x) (blocks_bytes xs) (bytes_three 8 x.base 2 x.lower 2 x.upper) (bytes_blocks xs) i

-- and of a mask
pub bytes_are_bytes : (xs : List Block) → Bytes (mask_bytes xs)
unfolding head_bytes mask_bytes
bytes_are_bytes xs =
    bytes_append (head_bytes (length xs)) (blocks_bytes xs) (bytes_three 2 (6 + 12 * length xs) 2 2 2 (length xs)) (bytes_blocks xs)
