-- Numbers in bytes: how large they are, and that what was written is read.
-- Assumes nothing.
use Rattle.std.proofs.Common.{◌≡◌, ℕ, zero, suc, ◌+◌, ◌/◌, ◌%◌, ◌^◌, ◌<◌, List, [], ◌∷◌, ◌++◌, length, refl, ap, add-suc, pow-suc, arith, get_or-append-add}
use Rattle.records.specs.Bytes.{Bytes, number_at, bytes_of}

-- the number in k bytes is below 256 ^ k
pub number_lt : (k : ℕ) (bs : List ℕ) (i : ℕ) → Bytes bs → number_at k bs i < 256 ^ k
unfolding number_at
number_lt zero bs i h = omega arith
number_lt (suc k) bs i h = rw pow-suc (omega (arith, h i, number_lt k bs (suc i) h))

-- k bytes are written
pub length_bytes : (k x : ℕ) → length (bytes_of k x) ≡ k
unfolding bytes_of
length_bytes zero x = refl
length_bytes (suc k) x = ap suc (length_bytes k (x / 256))

-- a number behind a list is read at an offset
pub number_behind : (k : ℕ) (p q : List ℕ) (i : ℕ) → number_at k (p ++ q) (length p + i) ≡ number_at k q i
unfolding number_at
number_behind zero p q i = refl
number_behind (suc k) p q i = rw (get_or-append-add p q i 0, ← add-suc (length p) i, number_behind k p q (suc i))

-- what was written is read
pub number_bytes : (k x : ℕ) (r : List ℕ) → x < 256 ^ k → number_at k (bytes_of k x ++ r) 0 ≡ x
unfolding number_at bytes_of
number_bytes zero x r h = omega arith
number_bytes (suc k) x r h =
    rw (number_behind k (x % 256 ∷ []) (bytes_of k (x / 256) ++ r) 0, number_bytes k (x / 256) r (omega (arith, pow-suc 256 k))) (omega arith)
