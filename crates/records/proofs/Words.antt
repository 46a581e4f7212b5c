-- Numbers in bytes by words of 8 bytes: a word's first bytes are the number, and the others are 0 or are left out.
-- Assumes nothing.
use Rattle.std.proofs.Common.{◌≡◌, ℕ, zero, suc, ◌+◌, ◌-◌, ◌/◌, ◌%◌, ◌^◌, ◌<◌, ◌≤◌, List, ◌∷◌, ◌++◌, length, take, drop, sym, refl, ◌∙◌, ap, ap₂, add-zero, zero-add, pow-suc, arith, length-drop, append_assoc, drop-drop, w64}
use Rattle.std.specs.Prelude.{replicate}
use Rattle.std.specs.Int as std
use Rattle.std.specs.Int.{from_le_bytes, to_le_bytes, bytes_low_first}
use native.Mathlib.Nat.{div-div-eq-div-mul}
use Rattle.std.proofs.lemmas.List.{get_or-take, get_or-drop, get_or-append-add, get_or_append_left, length-take-le}
use Rattle.std.proofs.lemmas.List.Edits.{sets, sets-eq}
use borrow.Rule.Slice.PartMut.{put_mid}
use Rattle.records.specs.Bytes.{byte_at, number_at, bytes_of}
use Rattle.records.proofs.Numbers.{length_bytes}

-- bytes of 0 are the number 0
number_zero : (k : ℕ) (p : List ℕ) (i : ℕ) → ((d : ℕ) → byte_at p (i + d) ≡ 0) → number_at k p i ≡ 0
unfolding number_at
number_zero zero p i h = refl
number_zero (suc k) p i h =
    let first : byte_at p i ≡ 0 = rw add-zero at (h 0) in
    let others = number_zero k p (suc i) (λ d. let e : i + suc d ≡ suc i + d = omega arith in rw e at (h (suc d))) in
    rw (first, others)

-- k equal bytes, with bytes of 0 behind them, are one number
number_padded : (k j : ℕ) (p q : List ℕ) (i at : ℕ) → ((d : ℕ) → d < k → byte_at p (i + d) ≡ byte_at q (at + d))
    → ((d : ℕ) → byte_at p (i + k + d) ≡ 0) → number_at (k + j) p i ≡ number_at k q at
unfolding number_at
number_padded zero j p q i at same rest = rw zero-add (number_zero j p i (λ d. rw add-zero at (rest d)))
number_padded (suc k) j p q i at same rest =
    let first : byte_at p i ≡ byte_at q at = simp add-zero at (same 0 (omega arith)) in
    let copied : (d : ℕ) → d < k → byte_at p (suc i + d) ≡ byte_at q (suc at + d)
    = λ d l. let a : i + suc d ≡ suc i + d = omega arith in let b : at + suc d ≡ suc at + d = omega arith in rw (a, b) at (same (suc d) (omega arith)) in
    let none : (d : ℕ) → byte_at p (suc i + k + d) ≡ 0 = λ d. let e : i + suc k + d ≡ suc i + k + d = omega arith in rw e at (rest d) in
    let others = number_padded k j p q (suc i) (suc at) copied none in
    let more : suc k + j ≡ suc (k + j) = omega arith in
    rw (more, first, others)

-- what lies behind the first zeros is 0
zero_behind : (k d : ℕ) → byte_at (drop k (replicate 8 0)) d ≡ 0
zero_behind k d = get_or-drop k (replicate 8 0) d 0 ∙ zeros 8 (k + d)
  where
    zeros : (n i : ℕ) → byte_at (replicate n 0) i ≡ 0
    zeros zero i = refl
    zeros (suc n) zero = refl
    zeros (suc n) (suc i) = zeros n i

-- std's number of 8 bytes
word_number : (ys : List ℕ) → from_le_bytes w64 ys ≡ number_at 8 ys 0
unfolding number_at
word_number ys = omega arith

-- a word into which k bytes from byte `at` on are copied, over zeros, is the number in them
pub word_read : (bs : List ℕ) (at k : ℕ) (part : List ℕ) → k ≤ 8 → at + k ≤ length bs → part ≡ take k (drop at bs)
    → from_le_bytes w64 (part ++ drop k (replicate 8 0)) ≡ number_at k bs at
word_read bs at k part few fits is =
    let zeros : List ℕ = drop k (replicate 8 0) in
    let size : length part ≡ k = rw is (length-take-le k (drop at bs) (omega (arith, length-drop at bs))) in
    let all : k + (8 - k) ≡ 8 = omega arith in
    let copied : (d : ℕ) → d < k → byte_at (part ++ zeros) d ≡ byte_at bs (at + d)
    = λ d l. get_or_append_left part zeros 0 d (omega arith) ∙ rw (is, get_or-take k (drop at bs) d 0 l) (get_or-drop at bs d 0) in
    let none : (d : ℕ) → byte_at (part ++ zeros) (k + d) ≡ 0
    = λ d. rw size at (get_or-append-add part zeros d 0) ∙ zero_behind k d in
    word_number (part ++ zeros) ∙ rw all at (number_padded k (8 - k) (part ++ zeros) bs 0 at (λ d l. rw zero-add (copied d l)) (λ d. rw zero-add (none d)))

-- std's bytes of a number
low_bytes : (i k x : ℕ) → bytes_low_first i k x ≡ bytes_of k (x / 256 ^ i)
unfolding bytes_of
low_bytes i zero x = refl
low_bytes i (suc k) x =
    let next : x / 256 ^ suc i ≡ x / 256 ^ i / 256 = ap (λ n. x / n) (omega (arith, pow-suc 256 i)) ∙ sym (div-div-eq-div-mul x (256 ^ i) 256) in
    ap₂ ◌∷◌ (here i) (low_bytes (suc i) k x ∙ ap (bytes_of k) next)
  where
    here : (i : ℕ) → std.byte_at i x ≡ x / 256 ^ i % 256
    here zero = omega arith
    here (suc i) = refl

-- of more bytes, the first k
take_bytes : (k j x : ℕ) → take k (bytes_of (k + j) x) ≡ bytes_of k x
unfolding bytes_of
take_bytes zero j x = refl
take_bytes (suc k) j x = let e : suc k + j ≡ suc (k + j) = omega arith in rw e (ap (◌∷◌ (x % 256)) (take_bytes k j (x / 256)))

-- k bytes of a word written over k bytes are the number's bytes
pub word_written : (out : List ℕ) (at k x : ℕ) (part : List ℕ) → k ≤ 8 → at + k ≤ length out → part ≡ take k (to_le_bytes w64 x)
    → put_mid at k out part ≡ sets out at (bytes_of k x)
word_written out at k x part few fits is =
    let all : k + (8 - k) ≡ 8 = omega arith in
    let whole : to_le_bytes w64 x ≡ bytes_of 8 x = let e : x / 256 ^ 0 ≡ x = omega arith in rw e at (low_bytes 0 8 x) in
    let bytes : part ≡ bytes_of k x = is ∙ rw whole (rw all at (take_bytes k (8 - k) x)) in
    let last = rw length_bytes at (sets-eq (bytes_of k x) out at (rw length_bytes fits)) in
    rw (bytes, drop-drop, last, append_assoc)
