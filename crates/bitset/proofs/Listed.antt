-- The members of a set as a list: which they are, in which order, and what is left without the first.
-- Assumes nothing.
use mathlib.Core.Path.{◌≡◌, refl, ap, ap₂, ◌∙◌}
use mathlib.Core.Logic.{◌↔◌, ◌⊎◌, inl, inr, ⊎_elim}
use mathlib.Core.Bool.{Bool, true, false, cond, ◌&&◌, ◌||◌}
use mathlib.Core.List.{List, [], ◌∷◌, ◌++◌}
use Prim.Native.Nat.{ℕ, zero, suc, ◌+◌, ◌-◌, ◌^◌, ◌≤◌, ◌<◌}
use native.Mathlib.Omega.{arith}
use lib.Dec.{T}
use lib.ListN.{length, get_or}
use Rattle.std.proofs.Common.{add-one}
use Rattle.std.specs.Prelude.{filter, Contains, fold}
use Rattle.std.specs.List.{range_with_len, list_any}
use Rattle.std.specs.List.Sorted.{IsStrictlyIncreasing}
use Rattle.std.proofs.lemmas.List.{map-id}
use Rattle.std.proofs.lemmas.List.Folds.{list_any-append}
use Rattle.std.proofs.lemmas.List.FromFn.{filter_of_map_range_with_len_more, length-range_with_len, get_or-range_with_len}
use Rattle.std.proofs.lemmas.List.Kept.{IsStrictlyIncreasing-filter}
use Rattle.std.proofs.lemmas.List.Sums.{fold-append}
use Rattle.model.specs.Set.{has, Member, either, some_below, union_below, some_member, members, union_of}
use Rattle.model.proofs.Set.{member, in_one, one_in, in_either}
use Rattle.bitset.specs.Difference.{difference}
use Rattle.bitset.specs.First.{First}
use Rattle.bitset.specs.Listed.{listed}
use Rattle.bitset.proofs.Laws.{same_test, bit_member, in_difference, difference_bytes}

-- the n numbers from a on that pass the test
abbrev among : (ℕ → Bool) → ℕ → ℕ → List ℕ
among p a n = filter p (range_with_len a n)

-- ---- which they are

-- what is in a list with one element more
in_cons : (y : ℕ) (ys : List ℕ) (x : ℕ) → Contains (y ∷ ys) x ↔ ((y ≡ x) ⊎ Contains ys x)
in_cons y ys x = (λ (k, l, e). go k l e, ⊎_elim (λ e. (0, omega arith, e)) (λ (k, l, e). (suc k, omega arith, e)))
  where
    go : (k : ℕ) → k < length (y ∷ ys) → get_or (y ∷ ys) k x ≡ x → (y ≡ x) ⊎ Contains ys x
    go zero l e = inl e
    go (suc k) l e = inr (k, omega arith, e)

-- what is in the list of those that pass
pub in_filter : (p : ℕ → Bool) (x : ℕ) (xs : List ℕ) → Contains (filter p xs) x ↔ (Contains xs x × T (p x))
in_filter p x [] = (λ (k, l, e). absurd (omega arith), λ ((k, l, e), h). absurd (omega arith))
in_filter p x (y ∷ ys) = go (p y) refl (in_filter p x ys)
  where
    go : (v : Bool) → p y ≡ v → Contains (filter p ys) x ↔ (Contains ys x × T (p x))
        → Contains (cond v (y ∷ filter p ys) (filter p ys)) x ↔ (Contains (y ∷ ys) x × T (p x))
    go true e next = (
      λ c.
          ⊎_elim (λ (d : y ≡ x). ((in_cons y ys x).1 (inl d), rw (← d, e) tt))
          (λ m. let (n, h) = next.0 m in ((in_cons y ys x).1 (inr n), h)) ((in_cons y (filter p ys) x).0 c),
      λ (c, h). (in_cons y (filter p ys) x).1 (⊎_elim inl (λ m. inr (next.1 (m, h))) ((in_cons y ys x).0 c)),
    )
    go false e next = (
      λ c. let (n, h) = next.0 c in ((in_cons y ys x).1 (inr n), h),
      λ (c, h). next.1 (⊎_elim (λ (d : y ≡ x). absurd (rw (← d, e) at h)) (λ m. m) ((in_cons y ys x).0 c), h),
    )

-- the numbers from a on
in_range : (a n x : ℕ) → Contains (range_with_len a n) x ↔ ((a ≤ x) × (x < a + n))
in_range a n x = (
  λ (k, l, e). let at = get_or-range_with_len a n k x (omega (arith, length-range_with_len a n)) in (omega arith, omega (arith, length-range_with_len a n)),
  λ (l, u). let at = get_or-range_with_len a n (x - a) x (omega arith) in (x - a, omega (arith, length-range_with_len a n), omega arith),
)

-- the list has the members
pub in_listed : (s x : ℕ) → Contains (listed s) x ↔ Member x s
unfolding listed
in_listed s x = (
  λ c. let (r, h) = (in_filter (has s) x (range_with_len 0 64)).0 c in member (omega (arith, ((in_range 0 64 x).0 r).1)) h,
  λ m. (in_filter (has s) x (range_with_len 0 64)).1 ((in_range 0 64 x).1 (omega arith, omega (arith, m.small)), m.there),
)

-- in increasing order, so none twice
pub listed_increasing : (s : ℕ) → IsStrictlyIncreasing (listed s)
unfolding listed
listed_increasing s =
    IsStrictlyIncreasing-filter (has s) (range_with_len 0 64)
    (λ k l. omega (arith, get_or-range_with_len 0 64 k 0 (omega (arith, length-range_with_len 0 64)), get_or-range_with_len 0 64 (k + 1) 0 (omega (arith, length-range_with_len 0 64))))

-- ---- the first of them

-- the empty set has none
pub listed_none : listed 0 ≡ []
unfolding listed has
listed_none = refl

-- sets that share the members from a on have the same there
among_same : (p q : ℕ → Bool) (n a : ℕ) → ((j : ℕ) → a ≤ j → p j ≡ q j) → among p a n ≡ among q a n
among_same p q zero a h = refl
among_same p q (suc n) a h = rw (h a (omega arith), among_same p q n (a + 1) (λ j l. h j (omega arith)))

-- the least that passes comes first, and then those that pass too
among_first : (p q : ℕ → Bool) (i : ℕ) → T (p i) → ((j : ℕ) → T (p j) → i ≤ j) → ((j : ℕ) → T (q j) ↔ (T (p j) × ¬ (j ≡ i))) → (n a : ℕ) → a ≤ i → i < a + n
    → among p a n ≡ i ∷ among q a n
among_first p q i here least other zero a l u = absurd (omega arith)
among_first p q i here least other (suc n) a l u = go (p a) refl (λ k. among_first p q i here least other n (a + 1) k (omega arith))
  where
    unlike : ¬ T (q a) → q a ≡ false
    unlike k = same_test (q a) false (λ t. absurd (k t), λ t. absurd t)

    go : (v : Bool) → p a ≡ v → (a + 1 ≤ i → among p (a + 1) n ≡ i ∷ among q (a + 1) n)
        → cond v (a ∷ among p (a + 1) n) (among p (a + 1) n) ≡ i ∷ cond (q a) (a ∷ among q (a + 1) n) (among q (a + 1) n)
    go true e next =
        let first : a ≡ i = omega (arith, least a (rw e tt)) in
        let out : q a ≡ false = unlike (λ t. ((other a).0 t).1 first) in
        rw (out, first) (ap (λ xs. i ∷ xs) (among_same p q n (i + 1) (λ j k. same_test (p j) (q j) (λ t. (other j).1 (t, λ o. omega arith), λ t. ((other j).0 t).0))))
    go false e next =
        let out : q a ≡ false = unlike (λ t. rw e at ((other a).0 t).0) in
        let apart : ¬ (a ≡ i) = λ (o : a ≡ i). rw (← o, e) at here in
        rw out (next (omega arith))

-- a set without one of its members
without : (s i t : ℕ) → s < 2 ^ 64 → i < 64 → t ≡ difference s (2 ^ i) → (j : ℕ) → T (has t j) ↔ (T (has s j) × ¬ (j ≡ i))
without s i t small l e j = (
  λ h. let (m, n) = (in_difference s (2 ^ i)).0 (rw e at (bit_member t j (rw e (difference_bytes s (2 ^ i))) h)) in (m.there, λ o. n (rw o (one_in l))),
  λ (h, n). rw e ((in_difference s (2 ^ i)).1 (bit_member s j small h, λ o. n (in_one o))).there,
)

-- the least member comes first, and then those of the set without it
pub listed_first : (s i t : ℕ) → s < 2 ^ 64 → First i s → t ≡ difference s (2 ^ i) → listed s ≡ i ∷ listed t
unfolding listed
listed_first s i t small first e =
    among_first (has s) (has t) i first.member.there (λ j h. first.least j (bit_member s j small h)) (without s i t small first.member.small e) 64 0
    (omega arith) (omega (arith, first.member.small))

-- ---- what is made of them all

-- the numbers below n + 1 that pass
among_more : (p : ℕ → Bool) (n : ℕ) → among p 0 (suc n) ≡ among p 0 n ++ filter p (n ∷ [])
among_more p n = rw add-one at (simp map-id at (filter_of_map_range_with_len_more p (λ x. x) 0 n n (omega arith)))

-- those that pass a second test too
filter_twice : (p q : ℕ → Bool) (xs : List ℕ) → filter q (filter p xs) ≡ filter (λ i. p i && q i) xs
filter_twice p q [] = refl
filter_twice p q (x ∷ xs) = grind (arith, filter_twice p q xs)

-- some number below n that passes the first test passes the second
any_below : (p q : ℕ → Bool) (n : ℕ) → list_any q (among p 0 n) ≡ some_below n (λ i. p i && q i)
unfolding some_below
any_below p q zero = refl
any_below p q (suc n) =
    ap (list_any q) (among_more p n) ∙ list_any-append q (among p 0 n) (filter p (n ∷ [])) ∙ ap₂ ◌||◌ (any_below p q n) (go (p n) (q n) refl)
  where
    go : (v w : Bool) → q n ≡ w → list_any q (cond v (n ∷ []) []) ≡ (v && q n)
    go true true e = rw e
    go true false e = rw e
    go false w e = refl

-- some member passes the test
pub any_listed : (s : ℕ) (p : ℕ → Bool) → list_any p (listed s) ≡ some_member s p
unfolding listed
any_listed s p = any_below (has s) p 64

-- the union of f i, over the numbers below n that pass
union_fold : (p : ℕ → Bool) (f : ℕ → ℕ) (n : ℕ) → fold (λ a i. either a (f i)) 0 (among p 0 n) ≡ union_below n p f
unfolding union_below
union_fold p f zero = refl
union_fold p f (suc n) =
    ap (fold (λ a i. either a (f i)) 0) (among_more p n) ∙ fold-append (λ a i. either a (f i)) 0 (among p 0 n) (filter p (n ∷ []))
    ∙ ap (λ a. fold (λ a i. either a (f i)) a (filter p (n ∷ []))) (union_fold p f n) ∙ go (p n)
  where
    go : (v : Bool) → fold (λ a i. either a (f i)) (union_below n p f) (cond v (n ∷ []) []) ≡ cond v (either (union_below n p f) (f n)) (union_below n p f)
    go true = refl
    go false = refl

-- a, and the union of f i over the members
abbrev pub joined : (ℕ → ℕ) → ℕ → ℕ → ℕ
joined f a s = fold (λ b i. either b (f i)) a (listed s)

-- where a is empty, the union alone
pub union_listed : (s : ℕ) (f : ℕ → ℕ) → joined f 0 s ≡ union_of s f
unfolding listed
union_listed s f = union_fold (has s) f 64

-- where no member is left, a alone
pub joined_none : (s : ℕ) → listed s ≡ [] → (f : ℕ → ℕ) (a : ℕ) → joined f a s ≡ a
joined_none s e f a = ap (fold (λ b i. either b (f i)) a) e

-- the first member x, and then the others
pub joined_next : (s t x : ℕ) → listed s ≡ x ∷ listed t → (f : ℕ → ℕ) (a : ℕ) → joined f a s ≡ joined f (either a (f x)) t
joined_next s t x e f a = ap (fold (λ b i. either b (f i)) a) e

-- what is in a stays
pub joined_keeps : (s : ℕ) (f : ℕ → ℕ) (a j : ℕ) → Member j a → Member j (joined f a s)
joined_keeps s f a j = go (listed s) a
  where
    go : (xs : List ℕ) (a : ℕ) → Member j a → Member j (fold (λ b i. either b (f i)) a xs)
    go [] a m = m
    go (x ∷ xs) a m = go xs (either a (f x)) ((in_either a (f x)).1 (inl m))

-- the members that pass the test
pub members_listed : (s : ℕ) (p : ℕ → Bool) → fold (λ a i. either a (2 ^ i)) 0 (filter p (listed s)) ≡ members s p
unfolding listed
members_listed s p = ap (fold (λ a i. either a (2 ^ i)) 0) (filter_twice (has s) p (range_with_len 0 64)) ∙ union_fold (λ i. has s i && p i) (λ i. 2 ^ i) 64
