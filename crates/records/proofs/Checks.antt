-- Which check decides, and what those that pass tell.
-- Assumes nothing.
use Rattle.std.proofs.Common.{◌≡◌, ℕ, zero, suc, ◌+◌, ◌*◌, ◌<◌, ◌≤◌, Bool, true, false, ◌||◌, Option, Some, Ok, ◌↔◌, List, [], ◌∷◌, ◌++◌, length, get_or, refl, mul-le-mul, arith}
use Rattle.std.proofs.lemmas.Bool.Decides.{nat_tests}
use Rattle.model.specs.declared.Block.{Block}
use Rattle.model.specs.declared.Refusal.{Refusal}
use Rattle.model.specs.Refusal.{accepted, refuse, unless}
use Rattle.model.specs.Set.{Member, some_from}
use Rattle.model.specs.DashedString.{Each}
use Rattle.bitset.proofs.Laws.{some_from_lem}
use Rattle.records.specs.declared.automaton.BookHead.{BookHead}
use Rattle.records.specs.Check.{some, length_field, kind, unframed, frame_refusal}
use Rattle.records.specs.Mask.{count, mask_of, blocks_refusal, mask_refusal}
use Rattle.records.specs.Book.{out_of_range, unnamed}

-- no refusal: this check doesn't fail, and the next ones don't refuse
pub peel : (t : Bool) (k : Refusal) (r : Option Refusal) → refuse t k r ≡ accepted → (t ≡ false) × (r ≡ accepted)
unfolding refuse
peel true k r h = cc
peel false k r h = (refl, h)

-- a check that fails decides
pub on : (t : Bool) (k : Refusal) (r : Option Refusal) → t ≡ true → refuse t k r ≡ Some k
unfolding refuse
on t k r e = rw e

-- one that passes leaves it to the next
pub off : (t : Bool) (k : Refusal) (r : Option Refusal) → t ≡ false → refuse t k r ≡ r
unfolding refuse
off t k r e = rw e

-- one element more at the end
pub some_more : {A : Type 0} (p : A → Bool) (xs : List A) (x : A) → some p (xs ++ x ∷ []) ≡ (some p xs || p x)
unfolding some
some_more p [] x = grind arith
some_more p (y ∷ xs) x = grind (arith, some_more p xs x)

-- neither test fires
pub neither : (a b : Bool) → (a || b ≡ false) ↔ ((a ≡ false) × (b ≡ false))
neither a b = grind (arith, nat_tests)

-- no member is k or above
pub none_from : (s k : ℕ) → (some_from s k ≡ false) ↔ ((i : ℕ) → Member i s → i < k)
none_from s k = grind (arith, nat_tests, some_from_lem)

-- each block has a property that follows from one that each has
pub each_map : (P Q : Block → Type 0) → ((x : Block) → P x → Q x) → (xs : List Block) → Each P xs → Each Q xs
each_map P Q f [] h = tt
each_map P Q f (x ∷ xs) (h, hs) = (f x h, each_map P Q f xs hs)

-- no block passes the test: each has what the test denies
pub none_each : (p : Block → Bool) (P : Block → Type 0) → ((x : Block) → (p x ≡ false) ↔ P x)
    → (xs : List Block) → (some p xs ≡ false) ↔ Each P xs
unfolding some
none_each p P h [] = grind arith
none_each p P h (x ∷ xs) = grind (arith, h x, none_each p P h xs)

-- no number of a list passes the test: none at any place
pub none_at : (p : ℕ → Bool) (l : List ℕ) → (some p l ≡ false) ↔ ((i : ℕ) → i < length l → p (get_or l i 0) ≡ false)
unfolding some
none_at p [] = (λ e i h. absurd (omega arith), λ h. refl)
none_at p (x ∷ l) = (
  λ e.
      let (a, b) = (neither (p x) (some p l)).0 e in
      λ i. go (λ i. p (get_or (x ∷ l) i 0) ≡ false) a (λ i h. (none_at p l).0 b i (omega arith)) i,
  λ h. (neither (p x) (some p l)).1 (h 0 (omega arith), (none_at p l).1 (λ i l. h (suc i) (omega arith))),
)
  where
    go : (P : ℕ → Type 0) → P 0 → ((i : ℕ) → suc i < suc (length l) → P (suc i)) → (i : ℕ) → i < suc (length l) → P i
    go P z s zero h = z
    go P z s (suc i) h = s i h

-- a framed record has at least 4 bytes, and says how many
pub framing : (bs : List ℕ) → (unframed bs ≡ false) ↔ ((4 ≤ length bs) × (length_field bs ≡ length bs))
unfolding unframed
framing bs = grind (arith, nat_tests)

-- where checks 1 to 5 of a mask pass, those of its blocks decide
pub blocks_decide : (bs : List ℕ) → unframed bs ≡ false → kind bs ≡ 2 → 6 ≤ length bs → count bs ≤ 1024 → length bs ≡ 6 + 12 * count bs
    → mask_refusal bs ≡ blocks_refusal (mask_of bs)
unfolding refuse mask_refusal
blocks_decide bs frame two long few size = grind (arith, nat_tests)

-- what checks 1 to 3 leave
pub framed : {A : Type 0} (k head : ℕ) (bs : List ℕ) (x y : A) → unless (frame_refusal k head bs) x ≡ Ok y → (unframed bs ≡ false) × (kind bs ≡ k) × (head ≤ length bs)
unfolding refuse frame_refusal
framed k head bs x y e = grind (arith, nat_tests)

-- n and m are in their ranges
pub in_range : (b : BookHead) → (out_of_range b ≡ false) ↔ (((0 < b.states) × (b.states ≤ 63)) × ((0 < b.letters) × (b.letters ≤ 64)))
unfolding out_of_range
in_range b = grind (arith, nat_tests)

-- so there are few states
pub few_states : (b : BookHead) → out_of_range b ≡ false → b.states < 64
few_states b e = omega (arith, (in_range b).0 e)

-- and the start is one of them
pub start_named : (b : BookHead) (moves : List ℕ) → unnamed b moves ≡ false → b.start < b.states
unfolding unnamed
start_named b moves e = grind (arith, nat_tests)

-- so there are few moves
pub few_moves : (b : BookHead) → out_of_range b ≡ false → b.states * b.letters ≤ 63 * 64
few_moves b e = let (n, m) = (in_range b).0 e in mul-le-mul n.1 m.1
