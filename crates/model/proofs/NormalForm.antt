-- The normal form spells what the mask spells, and it is reduced (01, "The passes").
use Rattle.std.proofs.lemmas.Bool.{cases_Bool, cases_eq}
use Rattle.std.proofs.lemmas.Grind.{common_steps}
use Rattle.std.proofs.Common.{◌≡◌, ℕ, ◌+◌, ◌-◌, ◌<◌, ◌≤◌, min, T, ◌↔◌, List, [], ◌∷◌, ◌++◌, length, take, drop, refl, ⊎_elim, append_assoc, arith, length-append, length-drop, take-append-drop, drop_of_length-le, length-take, eq-eqb, ne_eqb}
use mathlib.Core.Logic.Iff
use Rattle.model.specs.declared.Block.{Block}
use Rattle.model.specs.DashedString.{block, Each, Bounded, Within, nil, Piece, Matches}
use Rattle.model.specs.NormalForm.{idle, dropped, join, joined, normal, Apart, Reduced}
use Rattle.model.proofs.Words.{within_append, within_split, within_zero, Concat, matches_cons}

-- two blocks of one base as one block
abbrev pub merged : Block → Block → Block
merged x y = block x.base (x.lower + y.lower) (x.upper + y.upper)

-- ys is what becomes of xs from the last block to the first, each block being dropped, kept, or joined with the one behind it
pub data Normalizes : List Block → List Block → Type 0 where
  nothing : Normalizes [] []
  drops : {x : Block} {xs ys : List Block} → T (idle x) → Normalizes xs ys → Normalizes (x ∷ xs) ys
  keeps : {x : Block} {xs ys : List Block} → ¬ T (idle x) → Apart x.base ys → Normalizes xs ys → Normalizes (x ∷ xs) (x ∷ ys)
  joins : {x y : Block} {xs ys : List Block} → ¬ T (idle x) → x.base ≡ y.base → Normalizes xs (y ∷ ys)
      → Normalizes (x ∷ xs) (merged x y ∷ ys)

-- a block that is not idle is kept or joined
join_normalizes : (x : Block) (ys : List Block) {xs : List Block} → ¬ T (idle x) → Normalizes xs ys → Normalizes (x ∷ xs) (join x ys)
unfolding join
join_normalizes x [] i n = keeps i tt n
join_normalizes x (y ∷ ys) i n =
    ⊎_elim (λ e. rw (eq-eqb x.base y.base e) (joins i e n)) (λ e. rw (ne_eqb x.base y.base e) (keeps i e n)) (cases_eq x.base y.base)

-- the normal form is what becomes of a mask so: the theorems below and in Room go by the four cases
pub normalizes : (xs : List Block) → Normalizes xs (normal xs)
unfolding normal dropped joined
normalizes [] = nothing
normalizes (x ∷ xs) =
    ⊎_elim (λ e. rw e (drops {x = x} (rw e tt) (normalizes xs))) (λ e. rw e (join_normalizes x (normal xs) (λ i. rw e at i) (normalizes xs)))
    (cases_Bool (idle x))

-- what holds of each block of a mask, and of two blocks joined where it holds of both, holds of each block of the normal form
pub each_normal : (P : Block → Type 0) → ((x y : Block) → x.base ≡ y.base → P x → P y → P (merged x y))
    → {xs ys : List Block} → Normalizes xs ys → Each P xs → Each P ys
each_normal P k nothing h = tt
each_normal P k (drops i n) h = each_normal P k n h.1
each_normal P k (keeps i a n) h = (h.0, each_normal P k n h.1)
each_normal P k (joins {x} {y} i e n) h = let (b, bs) = each_normal P k n h.1 in (k x y e h.0 b, bs)

-- the upper bound of a block that is not idle is positive
pub idle_positive : (x : Block) → ¬ T (idle x) → 0 < x.upper
idle_positive = grind (arith, common_steps)

-- where two joined blocks are idle, the first is
pub idle_merged : (x y : Block) → T (idle (merged x y)) → T (idle x)
idle_merged = grind (arith, common_steps)

-- a word with the letters and the length that a block asks for is a piece of it
piece : {x : Block} {p : List ℕ} → Within x.base p → (x.lower ≤ length p) × (length p ≤ x.upper) → Piece x p
piece v (l, u) = record { within = v; enough = l; few = u }

-- the empty word is the one piece of an idle block
idle_piece : (x : Block) → T (idle x) → Bounded x → (p : List ℕ) → Piece x p ↔ (p ≡ [])
idle_piece x i b p = (
  λ a. grind (arith, common_steps, drop_of_length-le p {i = 0}, within_zero {p = p}),
  λ e. rw e (piece nil (grind (arith, common_steps))),
)

-- a mask spells the same with an idle block in front
drop_spells : (x : Block) {xs : List Block} {w : List ℕ} → T (idle x) → Bounded x → Matches xs w ↔ Matches (x ∷ xs) w
drop_spells x {w = w} i b = (
  λ m. matches_cons.1 ([], w, (idle_piece x i b []).1 refl, m, refl),
  λ m. let (p, q, a, n, e) = matches_cons.0 m in rw (← e, (idle_piece x i b p).0 a) n,
)

-- two masks that spell the same spell the same with one block in front of both
cons_spells : (x : Block) {xs ys : List Block} → ((w : List ℕ) → Matches xs w ↔ Matches ys w)
    → (w : List ℕ) → Matches (x ∷ xs) w ↔ Matches (x ∷ ys) w
cons_spells x f w = (go (λ v. (f v).0), go (λ v. (f v).1))
  where
    go : {xs ys : List Block} → ((v : List ℕ) → Matches xs v → Matches ys v) → Matches (x ∷ xs) w → Matches (x ∷ ys) w
    go g m = let (p, q, a, n, e) = matches_cons.0 m in matches_cons.1 (p, q, a, g q n, e)

module _ (x y : Block) (same : x.base ≡ y.base) (bx : Bounded x) (by : Bounded y) where
  -- a piece of two joined blocks is a piece of the first and behind it one of the second (cut as late as the bounds allow)
  piece_merged : {w : List ℕ} → Piece (merged x y) w ↔ Concat (Piece x) (Piece y) w
  piece_merged {w} = (
    λ a.
        let k = min x.upper (length w - y.lower) in
        let (u, v) = within_split (take k w) (rw (← take-append-drop k w) at a.within) in
        let front : Piece x (take k w) = piece u (simp length-take (omega arith)) in
        let back : Piece y (drop k w) = piece (rw same at v) (simp length-drop (omega arith)) in
        (take k w, drop k w, front, back, take-append-drop k w),
    λ (p, q, a, c, e). rw (← e) (piece (within_append a.within (rw same c.within)) (simp length-append (omega arith))),
  )

  -- two joined blocks in front of a mask spell what the two blocks spell there
  join_spells : {zs : List Block} {w : List ℕ} → Matches (merged x y ∷ zs) w ↔ Matches (x ∷ y ∷ zs) w
  join_spells = (
    λ m.
        let (r, t, a, n, e) = matches_cons.0 m in
        let (p, q, b, c, d) = piece_merged.0 a in
        matches_cons.1 (p, q ++ t, b, matches_cons.1 (q, t, c, n, refl), cc (append_assoc p q t)),
    λ m.
        let (p, r, a, n, e) = matches_cons.0 m in
        let (q, t, b, c, d) = matches_cons.0 n in
        matches_cons.1 (p ++ q, t, piece_merged.1 (p, q, a, b, refl), c, cc (append_assoc p q t)),
  )

-- no step changes what is spelled
spells : {xs ys : List Block} → Normalizes xs ys → Each Bounded xs → (w : List ℕ) → Matches ys w ↔ Matches xs w
spells nothing h w = Iff.rfl
spells (drops {x} i n) h w = Iff.trans (spells n h.1 w) (drop_spells x i h.0)
spells (keeps {x} i a n) h w = cons_spells x (λ v. spells n h.1 v) w
spells (joins {x} {y} i e n) h w =
    let bs = each_normal Bounded (λ x y e b c. omega arith) n h.1 in
    Iff.trans (join_spells x y e h.0 bs.0) (cons_spells x (λ v. spells n h.1 v) w)

-- the normal form spells what the mask spells
pub normal_spells : (xs : List Block) → Each Bounded xs → (w : List ℕ) → Matches (normal xs) w ↔ Matches xs w
normal_spells xs = spells (normalizes xs)

-- each step leaves a reduced mask
reduced : {xs ys : List Block} → Normalizes xs ys → Reduced ys
reduced nothing = tt
reduced (drops i n) = reduced n
reduced (keeps i a n) = (i, a, reduced n)
reduced (joins {x} {y} i e n) = let (j, a, r) = reduced n in (λ k. i (idle_merged x y k), rw e a, r)

-- the normal form is reduced: no block is idle, and no two neighbours have equal sets
pub normal_reduced : (xs : List Block) → Reduced (normal xs)
normal_reduced xs = reduced (normalizes xs)
