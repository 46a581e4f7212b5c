-- What is in a set that was made: of one number, of two sets, by a test, by a union.
-- Assumes nothing.
use Rattle.std.proofs.Common.{◌≡◌, ℕ, zero, suc, ◌/◌, ◌%◌, ◌^◌, ◌<◌, Bool, false, cond, ◌&&◌, ◌||◌, T, ◌⊎◌, ◌↔◌, inl, inr, ⊎_elim, arith}
use native.Mathlib.Decide.{le_ind}
use lib.Bits.{or_lt}
use lib.Pow.{pow-lt}
use Rattle.std.proofs.lemmas.Grind.{common_steps}
use Rattle.std.proofs.lemmas.Nat.Bits.{bit_at_and, bit_at_or, bit_at-lt, bit_at-zero, bit_at-suc, bit_at-pow_same, bit_at-pow_other}
use Rattle.model.specs.Set.{has, Member, both, either, some_below, union_below, some_member, members, union_of}

-- both tests pass
pub T_and : (a b : Bool) → T (a && b) ↔ (T a × T b)
T_and = grind (arith, common_steps)

-- one of the tests passes
pub T_or : (a b : Bool) → T (a || b) ↔ (T a ⊎ T b)
T_or = grind (arith, common_steps)

-- two binary digits have four cases
pub digits : (P : ℕ → ℕ → Type 0) → P 0 0 → P 0 1 → P 1 0 → P 1 1 → (a b : ℕ) → P (a % 2) (b % 2)
digits = grind (arith, common_steps)

-- a bit of both
has_both : (s t i : ℕ) → has (both s t) i ≡ (has s i && has t i)
unfolding has
has_both s t i = grind (arith, bit_at_and, bit_at-lt)

-- a bit of either
has_either : (s t i : ℕ) → has (either s t) i ≡ (has s i || has t i)
unfolding has
has_either s t i = grind (arith, bit_at_or, bit_at-lt)

-- the empty set has no bit
has_zero : (i : ℕ) → has 0 i ≡ false
unfolding has
has_zero i = rw bit_at-zero

-- halving moves the bits down
pub has_half : (s i : ℕ) → has s (suc i) ≡ has (s / 2) i
unfolding has
has_half s i = rw bit_at-suc

-- the set of one number has its bit and no other
has_one : (k i : ℕ) → T (has (2 ^ k) i) → i ≡ k
unfolding has
has_one k i h = grind (arith, bit_at-pow_other k i)

one_has : (k : ℕ) → T (has (2 ^ k) k)
unfolding has
one_has k = rw bit_at-pow_same tt

-- ---- members

-- a bit below 64 is a member
pub member : {i s : ℕ} → i < 64 → T (has s i) → Member i s
member h t = record { small = h; there = t }

-- the empty set has no member
pub in_none : {i : ℕ} → Member i 0 → ⊥
in_none {i} h = rw has_zero at h.there

-- the set of k has no member but k
pub in_one : {i k : ℕ} → Member i (2 ^ k) → i ≡ k
in_one {i} {k} h = has_one k i h.there

-- and k is one, below 64
pub one_in : {k : ℕ} → k < 64 → Member k (2 ^ k)
one_in {k} h = member h (one_has k)

-- in both: in each
pub in_both : (s t : ℕ) {i : ℕ} → Member i (both s t) ↔ (Member i s × Member i t)
in_both = grind (arith, has_both, T_and)

-- in either: in one of them
pub in_either : (s t : ℕ) {i : ℕ} → Member i (either s t) ↔ (Member i s ⊎ Member i t)
in_either = grind (arith, has_either, T_or)

-- ---- folds over the numbers below k

-- what starts out false, and holds one number on exactly where it held or that number made it so, holds by some number below k
below : (G H : ℕ → Type 0) → ¬ G 0 → ((k : ℕ) → G (suc k) ↔ (G k ⊎ H k)) → (k : ℕ) → G k ↔ ((i : ℕ) × (i < k) × H i)
below G H empty step k = (find k, λ (i, l, h). le_ind G ((step i).1 (inr h)) (λ m _ g. (step m).1 (inl g)) k l)
  where
    find : (k : ℕ) → G k → (i : ℕ) × (i < k) × H i
    find zero g = absurd (empty g)
    find (suc k) g = ⊎_elim (λ a. let (i, l, h) = find k a in (i, omega arith, h)) (λ h. (k, omega arith, h)) ((step k).0 g)

-- some number below k passes the test
pub some_below_lem : (k : ℕ) (p : ℕ → Bool) → T (some_below k p) ↔ ((i : ℕ) × (i < k) × T (p i))
unfolding some_below
some_below_lem k p = below (λ k. T (some_below k p)) (λ i. T (p i)) (λ h. h) (λ k. T_or (some_below k p) (p k)) k

-- a set, and where the test passes another
in_cond : (s t : ℕ) (v : Bool) {i : ℕ} → Member i (cond v (either s t) s) ↔ (Member i s ⊎ (T v × Member i t))
in_cond = grind (arith, in_either)

-- in the union over the numbers below k: in one of the sets
in_below : (k : ℕ) (p : ℕ → Bool) (f : ℕ → ℕ) {i : ℕ} → Member i (union_below k p f) ↔ ((j : ℕ) × (j < k) × (T (p j) × Member i (f j)))
unfolding union_below
in_below k p f {i} =
    below (λ k. Member i (union_below k p f)) (λ j. T (p j) × Member i (f j)) in_none (λ k. in_cond (union_below k p f) (f k) (p k)) k

-- ---- tests and unions over the members of a set

-- some member passes the test
pub some_member_lem : (s : ℕ) (p : ℕ → Bool) → T (some_member s p) ↔ ((i : ℕ) × Member i s × T (p i))
some_member_lem = grind (arith, some_below_lem, T_and)

-- among the members that pass: a member, and it passes
pub in_members : (s : ℕ) (p : ℕ → Bool) {i : ℕ} → Member i (members s p) ↔ (Member i s × T (p i))
in_members s p {i} = grind (arith, in_below 64 (λ i. has s i && p i) (λ i. 2 ^ i) {i = i}, T_and, in_one, one_in {k = i})

-- in the union over the members: in the set of one of them
pub in_union : (s : ℕ) (f : ℕ → ℕ) {i : ℕ} → Member i (union_of s f) ↔ ((j : ℕ) × Member j s × Member i (f j))
in_union = grind (arith, in_below)

-- the members of A that f takes, with some member of B, into E
pub in_related : (A B E : ℕ) (f : ℕ → ℕ → ℕ) → ((x y : ℕ) → f x y < 64) → {x : ℕ}
    → Member x (members A (λ x. some_member B (λ y. has E (f x y)))) ↔ (Member x A × (y : ℕ) × Member y B × Member (f x y) E)
in_related = grind (arith, in_members, some_member_lem)

-- ---- sets of 8 bytes

-- a union of sets of 8 bytes is one
below_bytes : (k : ℕ) (p : ℕ → Bool) (f : ℕ → ℕ) → ((i : ℕ) → i < k → f i < 2 ^ 64) → union_below k p f < 2 ^ 64
unfolding union_below
below_bytes zero p f h = omega arith
below_bytes (suc k) p f h =
    let rest = below_bytes k p f (λ i l. h i (omega arith)) in
    grind (arith, rest, or_lt 64 (union_below k p f) (f k) rest (h k (omega arith)))

-- and so are the members that pass a test
pub members_bytes : (s : ℕ) (p : ℕ → Bool) → members s p < 2 ^ 64
members_bytes s p = below_bytes 64 (λ i. has s i && p i) (λ i. 2 ^ i) (λ i l. pow-lt l)

-- and so is a union over members, where each of the sets is one
pub union_bytes : (s : ℕ) (f : ℕ → ℕ) → ((i : ℕ) → f i < 2 ^ 64) → union_of s f < 2 ^ 64
union_bytes s f h = below_bytes 64 (has s) f (λ i l. h i)
