-- The narrowed list, read entry by entry as place reads it, is the narrowed list.
-- Assumes nothing.
use Rattle.std.proofs.Common.{◌≡◌, ℕ, zero, suc, ◌+◌, ◌≤◌, List, [], ◌∷◌, length, get_or, take, drop, sym, refl, ◌∙◌, ap₂, zero-add, arith, length-append, length-drop, get_or-drop}
use lib.ListN.{length-replicate}
use lib.Seq.{split_at}
use Rattle.model.specs.declared.Block.{Block}
use Rattle.model.specs.DashedString.{values, block}
use Rattle.model.specs.Passes.{segments}
use Rattle.model.specs.Place.{entry_of}
use Rattle.model.specs.Demand3.{listed}

-- the first k elements of a list, read one by one
values_take : (f : ℕ → Block) (ys : List Block) (k : ℕ) → k ≤ length ys → ((j : ℕ) → f j ≡ get_or ys j (block 0 0 0)) → values f k ≡ take k ys
values_take f ys zero l h = refl
values_take f [] (suc k) l h = absurd (omega arith)
values_take f (y ∷ ys) (suc k) l h = ap₂ ◌∷◌ (h 0) (values_take (λ j. f (suc j)) ys k (omega arith) (λ j. h (suc j)))

-- the entries of the second block on stand behind the l + 1 of the first
entry_of_skip : (x : Block) (xs : List Block) (i j : ℕ) → entry_of (x ∷ xs) (suc i) j ≡ suc x.lower + entry_of xs i j
entry_of_skip = grind arith

-- a list of an entry for each segment, read where place reads it, is that list
pub listed_whole : (place : ℕ → ℕ → Block) (xs ys : List Block) → length ys ≡ length (segments xs)
    → ((i j : ℕ) → place (suc i) j ≡ get_or ys (entry_of xs i j) (block 0 0 0)) → listed place xs ≡ ys
listed_whole place [] [] l h = refl
listed_whole place [] (y ∷ ys) l h = absurd (omega arith)
listed_whole place (x ∷ xs) ys l h =
    let n : length ys ≡ suc x.lower + length (segments xs) = l ∙ simp (length-append, length-replicate) (omega arith) in
    let front = values_take (λ j. place 1 (suc j)) ys x.lower (omega arith) (λ j. rw zero-add at (h 0 (suc j))) in
    let middle = rw zero-add at (h 0 0) in
    let rest : length (drop (suc x.lower) ys) ≡ length (segments xs) = simp length-drop (omega arith) in
    let back = listed_whole (λ i. place (suc i)) xs (drop (suc x.lower) ys) rest (λ i j. h (suc i) j ∙ rw (entry_of_skip, ← get_or-drop)) in
    rw (front, middle, back) (sym (split_at ys x.lower (block 0 0 0) (omega arith)))
