-- What the code does to the number of a set, in terms of the set's members.
-- Assumes nothing.
use mathlib.Core.Path.{◌≡◌, refl, sym}
use mathlib.Core.Logic.{◌↔◌, ◌⊎◌, inl, inr, ⊎_elim}
use mathlib.Core.Bool.{Bool, true, false, not, ◌&&◌}
use Prim.Native.Nat.{ℕ, zero, suc, ◌+◌, ◌-◌, ◌/◌, ◌%◌, ◌^◌, ◌≤◌, ◌<◌, min}
use native.Mathlib.Nat.{one-mul, pow-suc, le-div_iff_mul-le, lt_of_not-le, mod_self}
use native.Mathlib.Omega.{arith}
use borrow.Author.Tests.{eq-eqb, eqb-true, eqb-false}
use lib.Arith.{bin_ind}
use lib.Bits.{bit_and, bit_xor, differ, and_step, xor_step, and_self, and_mask, and_shr, xor_shr, and_lt, and_le_l, and_le_r, xor_lt}
use lib.Count.{count_trailing_zeros, under}
use lib.Dec.{T, T_not, eqb, leb, ltb, eqb→eq, eqb_refl, eqb-suc-zero, ltb→lt, leb→le, le→leb}
use lib.Pow.{pow_pos, pow_mono, shr-shr}
use Rattle.model.specs.Set.{has, Member, both, either, some_member, some_from, one_member}
use Rattle.model.proofs.Set.{T_and, digits, has_half, some_below_lem, member, in_none, in_one, one_in, in_both, in_either, in_members, members_bytes, some_member_lem}
use Rattle.bitset.specs.Difference.{difference}
use Rattle.bitset.specs.First.{First}

-- tests that pass in the same cases are equal
pub same_test : (a b : Bool) → (T a ↔ T b) → a ≡ b
same_test a b h = grind arith

-- the test for 0
is_zero : (x : ℕ) → T (eqb x 0) ↔ (x ≡ 0)
is_zero x = (eqb→eq x 0, λ e. rw e tt)

-- and its opposite
is_positive : (x : ℕ) → T (not (eqb x 0)) ↔ (0 < x)
is_positive zero = (λ h. absurd h, λ h. absurd (omega arith))
is_positive (suc x) = (λ h. omega arith, λ h. rw (eqb-suc-zero x) tt)

-- a number of 2 ^ k or more shifts to more than 0, and no other does
shifted_positive : (s k : ℕ) → (0 < s / 2 ^ k) ↔ (2 ^ k ≤ s)
shifted_positive s k = rw one-mul at (le-div_iff_mul-le {k = 2 ^ k} {x = 1} {y = s} (pow_pos k))

-- ---- bits and members

-- bit 0 is the last digit
has_first : (s : ℕ) → T (has s 0) ↔ (s % 2 ≡ 1)
unfolding has
has_first s = (λ h. omega (arith, eqb→eq (s / 2 ^ 0 % 2) 1 h), λ e. rw (eq-eqb (s / 2 ^ 0 % 2) 1 (omega arith)) tt)

-- a number with bit i is at least 2 ^ i
has_le : (s i : ℕ) → T (has s i) → 2 ^ i ≤ s
unfolding has
has_le s i h = (shifted_positive s i).0 (omega (arith, eqb→eq (s / 2 ^ i % 2) 1 h))

-- a power of 2 in 8 bytes
exponent_small : (i : ℕ) → 2 ^ i < 2 ^ 64 → i < 64
exponent_small i h = lt_of_not-le (λ l. omega (arith, pow_mono {i = 64} {j = i} l))

-- a bit of 8 bytes is a member
pub bit_member : (s i : ℕ) → s < 2 ^ 64 → T (has s i) → Member i s
bit_member s i h t = member (exponent_small i (omega (arith, has_le s i t))) t

-- numbers with the same bit 0 have the same last digit
same_digit : (s t : ℕ) → T (has s 0) ↔ T (has t 0) → s % 2 ≡ t % 2
same_digit s t (f, g) =
    digits (λ x y. (x ≡ 1 → y ≡ 1) → (y ≡ 1 → x ≡ 1) → x ≡ y) (λ p q. refl) (λ p q. q refl) (λ p q. sym (p refl)) (λ p q. refl) s t
    (λ e. (has_first t).0 (f ((has_first s).1 e)))
    (λ e. (has_first s).0 (g ((has_first t).1 e)))

-- numbers of n binary digits with the same bits are equal
same_bits : (n s t : ℕ) → s < 2 ^ n → t < 2 ^ n → ((i : ℕ) → T (has s i) ↔ T (has t i)) → s ≡ t
same_bits zero s t a b h = omega arith
same_bits (suc n) s t a b h =
    omega (
      arith,
      same_digit s t (h 0),
      same_bits n (s / 2) (t / 2) (omega (arith, pow-suc 2 n)) (omega (arith, pow-suc 2 n)) (λ i. rw (has_half s i, has_half t i) at (h (suc i))),
    )

-- sets with the same members are equal
pub same_members : (s t : ℕ) → s < 2 ^ 64 → t < 2 ^ 64 → ((i : ℕ) → Member i s ↔ Member i t) → s ≡ t
same_members s t a b h = same_bits 64 s t a b (λ i. (λ x. ((h i).0 (bit_member s i a x)).there, λ x. ((h i).1 (bit_member t i b x)).there))

-- in a set with i added: in the set, or i
pub in_add : (s i j : ℕ) → i < 64 → Member j (either s (2 ^ i)) ↔ (Member j s ⊎ (j ≡ i))
in_add s i j h = (
  λ m. ⊎_elim inl (λ x. inr (in_one x)) ((in_either s (2 ^ i)).0 m),
  λ m. (in_either s (2 ^ i)).1 (⊎_elim inl (λ e. inr (rw e (one_in h))) m),
)

-- ---- sets that share members

-- a test that fails exactly when P holds
pub decided : {P : Type 0} (t : Bool) → P ↔ (¬ T t) → (P → t ≡ false) × (¬ P → t ≡ true)
decided true h = (λ p. absurd (h.0 p tt), λ n. refl)
decided false h = (λ p. refl, λ n. absurd (n (h.1 (λ t. t))))

-- the sets share none exactly where no member of the one is in the other
pub shared_test : (s t : ℕ) → s < 2 ^ 64 → ((both s t ≡ 0) → some_member s (has t) ≡ false) × (¬ (both s t ≡ 0) → some_member s (has t) ≡ true)
shared_test s t small = decided (some_member s (has t)) (
  λ e h. let (q, m, g) = (some_member_lem s (has t)).0 h in in_none (rw e at ((in_both s t).1 (m, member m.small g))),
  λ n.
      same_members (both s t) 0 (omega (arith, and_le_l s t)) (omega arith)
      (λ q. (λ m. let (x, y) = (in_both s t).0 m in absurd (n ((some_member_lem s (has t)).1 (q, x, y.there))), λ m. absurd (in_none m))),
)

-- ---- the least member

-- the zeros below the lowest bit end at a bit
trailing_bit : (k s : ℕ) → 0 < s → s < 2 ^ k → (count_trailing_zeros k s < k) × T (has s (count_trailing_zeros k s))
unfolding count_trailing_zeros
trailing_bit zero s h l = absurd (omega arith)
trailing_bit (suc k) s h l = go (s % 2) refl (λ p. trailing_bit k (s / 2) p (omega (arith, pow-suc 2 k)))
  where
    go : (r : ℕ) → s % 2 ≡ r → (0 < s / 2 → (count_trailing_zeros k (s / 2) < k) × T (has (s / 2) (count_trailing_zeros k (s / 2))))
        → (under r (count_trailing_zeros k (s / 2)) < suc k) × T (has s (under r (count_trailing_zeros k (s / 2))))
    go zero e next = let (a, b) = next (omega arith) in (omega arith, rw has_half b)
    go (suc r) e next = (omega arith, (has_first s).1 (omega arith))

-- no bit is lower
trailing_least : (k s j : ℕ) → T (has s j) → count_trailing_zeros k s ≤ j
unfolding count_trailing_zeros
trailing_least zero s j h = omega arith
trailing_least (suc k) s j h = go (s % 2) refl (trailing_least k (s / 2)) j h
  where
    go : (r : ℕ) → s % 2 ≡ r → ((j : ℕ) → T (has (s / 2) j) → count_trailing_zeros k (s / 2) ≤ j) → (j : ℕ) → T (has s j)
        → under r (count_trailing_zeros k (s / 2)) ≤ j
    go zero e next zero h = absurd (omega (arith, (has_first s).0 h))
    go zero e next (suc j) h = omega (arith, next j (rw has_half at h))
    go (suc r) e next j h = omega arith

-- the number of them is the least member
pub trailing_first : (s : ℕ) → s < 2 ^ 64 → 0 < s → First (count_trailing_zeros 64 s) s
trailing_first s l h =
    let (a, b) = trailing_bit 64 s h l in
    record { member = member a b; least = λ j m. trailing_least 64 s j m.there }

-- ---- what is in one set and not in another

-- in the difference: in the first and not in the second
pub in_difference : (s t : ℕ) {i : ℕ} → Member i (difference s t) ↔ (Member i s × ¬ Member i t)
unfolding difference
in_difference s t {i} = (
  λ h. let (m, n) = (in_members s (λ j. not (has t j))).0 h in (m, λ x. T_not (has t i) n x.there),
  λ (m, n). (in_members s (λ j. not (has t j))).1 (m, go (has t i) (λ x. n (member m.small x))),
)
  where
    go : (b : Bool) → ¬ T b → T (not b)
    go true n = n tt
    go false n = tt

-- it is a set of 8 bytes
pub difference_bytes : (s t : ℕ) → difference s t < 2 ^ 64
unfolding difference
difference_bytes s t = members_bytes s (λ j. not (has t j))

-- a bit of the code's difference
has_cleared : (s t i : ℕ) → has (bit_xor s (bit_and s t)) i ≡ (has s i && not (has t i))
unfolding has
has_cleared s t i =
    let x = s / 2 ^ i in
    let y = t / 2 ^ i in
    let digit : differ (x % 2) (bit_and x y % 2) < 2
    = digits (λ a b. differ a b < 2) (omega arith) (omega arith) (omega arith) (omega arith) x (bit_and x y) in
    let odd : bit_xor x (bit_and x y) % 2 ≡ differ (x % 2) (bit_and x y % 2) = omega (arith, digit, xor_step x (bit_and x y)) in
    let last : bit_and x y % 2 ≡ min (x % 2) (y % 2) = omega (arith, and_step x y) in
    rw (xor_shr s (bit_and s t) i, and_shr s t i, odd, last)
    (digits (λ a b. eqb (differ a (min a b)) 1 ≡ (eqb a 1 && not (eqb b 1))) refl refl refl refl x y)

-- what the code makes of two sets is their difference
pub difference_test : (s t : ℕ) → s < 2 ^ 64 → t < 2 ^ 64 → bit_xor s (bit_and s t) ≡ difference s t
unfolding difference
difference_test s t a b =
    same_members (bit_xor s (bit_and s t)) (difference s t) (xor_lt 64 s (bit_and s t) a (and_lt 64 s t a b)) (members_bytes s (λ j. not (has t j))) (λ i. (
      λ h.
          let (x, y) = (T_and (has s i) (not (has t i))).0 (rw has_cleared at h.there) in
          (in_members s (λ j. not (has t j))).1 (member h.small x, y),
      λ h.
          let (m, n) = (in_members s (λ j. not (has t j))).0 h in
          member m.small (rw has_cleared ((T_and (has s i) (not (has t i))).1 (m.there, n))),
    ))

-- ---- without the least member

-- what holds of odd numbers, and of an even one where it holds of its half, holds of every number above 0
halving : (P : ℕ → Type 0) → ((s : ℕ) → s % 2 ≡ 1 → P s) → ((s : ℕ) → s % 2 ≡ 0 → 0 < s / 2 → P (s / 2) → P s) → (s : ℕ) → 0 < s → P s
halving P odd even = bin_ind (λ s. 0 < s → P s) (λ h. absurd (omega arith)) (λ s next h. go s next h (eqb (s % 2) 1) refl)
  where
    go : (s : ℕ) → (0 < s / 2 → P (s / 2)) → 0 < s → (v : Bool) → eqb (s % 2) 1 ≡ v → P s
    go s next h true e = odd s (eqb-true (s % 2) 1 e)
    go s next h false e =
        let n = eqb-false (s % 2) 1 e in
        let l : 0 < s / 2 = omega arith in
        even s (omega arith) l (next l)

-- what s shares with the number before it: all bits but the lowest, which is bit i
abbrev ButLowest : ℕ → Type 0
ButLowest s = (i : ℕ) → T (has s i) → ((j : ℕ) → T (has s j) → i ≤ j) → (j : ℕ) → T (has (bit_and s (s - 1)) j) ↔ (T (has s j) × ¬ (j ≡ i))

-- that holds of every number above 0
but_lowest : (s : ℕ) → 0 < s → ButLowest s
but_lowest = halving ButLowest odd even
  where
    odd : (s : ℕ) → s % 2 ≡ 1 → ButLowest s
    odd s o i h l zero = (
      λ t. absurd (omega (arith, and_step s (s - 1), (has_first (bit_and s (s - 1))).0 t)),
      λ (t, n). absurd (n (omega (arith, l 0 t))),
    )
    odd s o i h l (suc j) =
        let half : (s - 1) / 2 ≡ s / 2 = omega arith in
        let shared : bit_and s (s - 1) / 2 ≡ s / 2 = omega (arith, rw (half, and_self) at (and_step s (s - 1))) in
        let same : has (bit_and s (s - 1)) (suc j) ≡ has s (suc j) = rw (has_half (bit_and s (s - 1)) j, shared, has_half s j) in
        (λ t. (rw same at t, λ e. omega (arith, l 0 ((has_first s).1 o))), λ (t, n). rw same t)

    even : (s : ℕ) → s % 2 ≡ 0 → 0 < s / 2 → ButLowest (s / 2) → ButLowest s
    even s o p next zero h l j = absurd (omega (arith, (has_first s).0 h))
    even s o p next (suc i) h l zero = (
      λ t. absurd (omega (arith, and_step s (s - 1), (has_first (bit_and s (s - 1))).0 t)),
      λ (t, n). absurd (omega (arith, (has_first s).0 t)),
    )
    even s o p next (suc i) h l (suc j) =
        let half : (s - 1) / 2 ≡ s / 2 - 1 = omega arith in
        let shared : bit_and s (s - 1) / 2 ≡ bit_and (s / 2) (s / 2 - 1) = omega (arith, rw half at (and_step s (s - 1))) in
        let (f, g) = next i (rw has_half at h) (λ k t. omega (arith, l (suc k) (rw has_half t))) j in (
          λ t. let (a, b) = f (rw (has_half, shared) at t) in (rw has_half a, λ e. b (omega arith)),
          λ (t, n). rw (has_half, shared) (g (rw has_half at t, λ e. n (omega arith))),
        )

-- what a set shares with the number before it is the set without its least member
pub without_first_lem : (s : ℕ) → s < 2 ^ 64 → 0 < s → (i : ℕ) → First i s → bit_and s (s - 1) ≡ difference s (2 ^ i)
unfolding difference
without_first_lem s b h i first =
    let there = first.member in
    let shared = but_lowest s h i there.there (λ j t. first.least j (bit_member s j b t)) in
    same_members (bit_and s (s - 1)) (difference s (2 ^ i)) (omega (arith, and_le_l s (s - 1))) (members_bytes s (λ j. not (has (2 ^ i) j))) (λ j. (
      λ m. let (t, n) = (shared j).0 m.there in (in_difference s (2 ^ i)).1 (member m.small t, λ o. n (in_one o)),
      λ m.
          let (t, n) = (in_difference s (2 ^ i)).0 m in
          member t.small ((shared j).1 (t.there, λ e. n (rw e (one_in there.small)))),
    ))

-- and it is less than the set
pub without_first_less : (s : ℕ) → 0 < s → bit_and s (s - 1) < s
without_first_less s h = omega (arith, and_le_r s (s - 1))

-- ---- members from k on

-- some member is k or above
pub some_from_lem : (s k : ℕ) → T (some_from s k) ↔ ((i : ℕ) × Member i s × (k ≤ i))
unfolding some_from
some_from_lem s k = (
  λ h. let (i, m, l) = (some_member_lem s (leb k)).0 h in (i, m, leb→le k i l),
  λ (i, m, l). (some_member_lem s (leb k)).1 (i, m, le→leb k i l),
)

-- a number above 0 has a bit
some_bit : (s : ℕ) → 0 < s → (i : ℕ) × T (has s i)
some_bit = halving (λ s. (i : ℕ) × T (has s i)) (λ s o. (0, (has_first s).1 o)) (λ s e l (i, b). (suc i, rw has_half b))

-- shifting moves the bits down
has_shift : (s k i : ℕ) → has (s / 2 ^ k) i ≡ has s (k + i)
unfolding has
has_shift s k i = rw (shr-shr s k i)

-- some member is k or above exactly where the number is at least 2 ^ k
pub some_from_le : (s k : ℕ) → s < 2 ^ 64 → T (some_from s k) ↔ (2 ^ k ≤ s)
some_from_le s k h = (
  λ t. let (i, m, l) = (some_from_lem s k).0 t in omega (arith, pow_mono l, has_le s i m.there),
  λ l.
      let (i, b) = some_bit (s / 2 ^ k) ((shifted_positive s k).1 l) in
      (some_from_lem s k).1 (k + i, bit_member s (k + i) h (rw (has_shift s k i) at b), omega arith),
)

-- ---- one member

-- exactly one member: the set of a number below 64
pub one_member_lem : (s : ℕ) → T (one_member s) ↔ ((i : ℕ) × (i < 64) × (s ≡ 2 ^ i))
unfolding one_member
one_member_lem s = (
  λ h. let (i, l, e) = (some_below_lem 64 (λ i. eqb s (2 ^ i))).0 h in (i, l, eqb→eq s (2 ^ i) e),
  λ (i, l, e). (some_below_lem 64 (λ i. eqb s (2 ^ i))).1 (i, l, rw e (eqb_refl (2 ^ i))),
)

-- a number shares no bit with the number before it exactly where it is a power of 2
power : (s : ℕ) → 0 < s → (bit_and s (s - 1) ≡ 0) ↔ ((i : ℕ) × (s ≡ 2 ^ i))
power s h = (halving (λ s. bit_and s (s - 1) ≡ 0 → (i : ℕ) × (s ≡ 2 ^ i)) odd even s h, λ (i, e). rw (e, and_mask (2 ^ i) i, mod_self))
  where
    odd : (s : ℕ) → s % 2 ≡ 1 → bit_and s (s - 1) ≡ 0 → (i : ℕ) × (s ≡ 2 ^ i)
    odd s o e = let half : (s - 1) / 2 ≡ s / 2 = omega arith in (0, omega (arith, rw (half, and_self) at (and_step s (s - 1))))

    even : (s : ℕ) → s % 2 ≡ 0 → 0 < s / 2 → (bit_and (s / 2) (s / 2 - 1) ≡ 0 → (i : ℕ) × (s / 2 ≡ 2 ^ i))
        → bit_and s (s - 1) ≡ 0 → (i : ℕ) × (s ≡ 2 ^ i)
    even s o l next e =
        let half : (s - 1) / 2 ≡ s / 2 - 1 = omega arith in
        let (i, p) = next (omega (arith, rw half at (and_step s (s - 1)))) in
        (suc i, omega (arith, pow-suc 2 i))

-- ---- the code's tests

-- a number above 0 that shares no bit with the number before it
pub one_member_test : (s : ℕ) → s < 2 ^ 64 → 0 < s → eqb (bit_and s (s - 1)) 0 ≡ one_member s
one_member_test s small h =
    same_test (eqb (bit_and s (s - 1)) 0) (one_member s) (
      λ t. let (i, e) = (power s h).0 ((is_zero (bit_and s (s - 1))).0 t) in (one_member_lem s).1 (i, exponent_small i (omega arith), e),
      λ t. let (i, l, e) = (one_member_lem s).0 t in (is_zero (bit_and s (s - 1))).1 ((power s h).1 (i, e)),
    )

-- a number that shifts to more than 0
pub some_from_test : (s k : ℕ) → s < 2 ^ 64 → not (eqb (s / 2 ^ k) 0) ≡ some_from s k
some_from_test s k small =
    same_test (not (eqb (s / 2 ^ k) 0)) (some_from s k) (
      λ t. (some_from_le s k small).1 ((shifted_positive s k).0 ((is_positive (s / 2 ^ k)).0 t)),
      λ t. (is_positive (s / 2 ^ k)).1 ((shifted_positive s k).1 ((some_from_le s k small).0 t)),
    )

-- no member is 64 or above
pub some_from_past : (s k : ℕ) → 64 ≤ k → ltb k 64 ≡ some_from s k
some_from_past s k h =
    same_test (ltb k 64) (some_from s k) (
      λ t. absurd (omega (arith, ltb→lt k 64 t)),
      λ t. let (i, m, l) = (some_from_lem s k).0 t in absurd (omega (arith, m.small)),
    )
