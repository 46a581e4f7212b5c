-- Sets of letters and of states. A set of numbers below 64 is the number that a record holds for it: bit i says whether
-- i is in it (01, "Records").
use Rattle.std.specs.Prelude.{ℕ, zero, suc, ◌/◌, ◌%◌, ◌^◌, ◌<◌, Bool, false, cond, ◌&&◌, ◌||◌, T, eqb, leb}
use Rattle.std.specs.Int.Bits.{bit_and, bit_or}

-- bit i of s is set
unfoldable pub has : ℕ → ℕ → Bool
has s i = eqb (s / 2 ^ i % 2) 1

-- i is in the set s
pub record Member (i s : ℕ) : Type 0 where
  pub small : i < 64
  pub there : T (has s i)

-- what is in both sets
abbrev pub both : ℕ → ℕ → ℕ
both s t = bit_and s t

-- what is in either set
abbrev pub either : ℕ → ℕ → ℕ
either s t = bit_or s t

-- some number below k passes the test
unfoldable pub some_below : ℕ → (ℕ → Bool) → Bool
some_below zero p = false
some_below (suc k) p = some_below k p || p k

-- the union of f i, over the numbers i below k that pass the test
unfoldable pub union_below : ℕ → (ℕ → Bool) → (ℕ → ℕ) → ℕ
union_below zero p f = 0
union_below (suc k) p f = let s = union_below k p f in cond (p k) (either s (f k)) s

-- some member passes the test
abbrev pub some_member : ℕ → (ℕ → Bool) → Bool
some_member s p = some_below 64 (λ i. has s i && p i)

-- the members that pass the test
abbrev pub members : ℕ → (ℕ → Bool) → ℕ
members s p = union_below 64 (λ i. has s i && p i) (λ i. 2 ^ i)

-- the union of f i, over the members i
abbrev pub union_of : ℕ → (ℕ → ℕ) → ℕ
union_of s f = union_below 64 (has s) f

-- some member is k or above
unfoldable pub some_from : ℕ → ℕ → Bool
some_from s k = some_member s (leb k)

-- exactly one member
unfoldable pub one_member : ℕ → Bool
one_member s = some_below 64 (λ i. eqb s (2 ^ i))
