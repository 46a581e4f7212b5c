-- The normal form of a mask with room, and the narrowed mask of one, fit a record (01, checks 4, 7, 8 and 9).
-- Assumes nothing.
use Rattle.std.proofs.Common.{◌≡◌, ℕ, zero, suc, ◌+◌, ◌-◌, ◌^◌, ◌≤◌, List, [], ◌∷◌, ◌++◌, map, length, replicate, refl, arith}
use Rattle.model.specs.declared.Block.{Block}
use Rattle.model.specs.DashedString.{block, Each, Bounded}
use Rattle.model.specs.Automaton.{Dfa}
use Rattle.model.specs.Passes.{Segment, mandatory, optional, segments, narrowed_list}
use Rattle.model.specs.NormalForm.{normal, Reduced}
use Rattle.model.specs.Verdict.{narrowed_mask}
use Rattle.model.specs.Size.{uppers, WellFormed, Room, Fits}
use Rattle.model.proofs.Segment.{as_block}
use Rattle.model.proofs.Segments.{AllNarrow, none, more, all_narrow}
use Rattle.model.proofs.NormalForm.{merged, Normalizes, nothing, drops, keeps, joins, normalizes, each_normal, idle_positive, normal_reduced}

-- joining keeps blocks well-formed
formed_merged : (m : ℕ) (x y : Block) → x.base ≡ y.base → WellFormed m x → WellFormed m y → WellFormed m (merged x y)
formed_merged m x y e a b = record { bounds = omega arith; bytes = a.bytes; letters = a.letters }

-- dropping does not raise the sum of the upper bounds, and joining keeps it; and no step makes a block more
less_normal : {xs ys : List Block} → Normalizes xs ys → (uppers ys ≤ uppers xs) × (length ys ≤ length xs)
less_normal nothing = omega arith
less_normal (drops i n) = omega (arith, less_normal n)
less_normal (keeps i a n) = omega (arith, less_normal n)
less_normal (joins i e n) = omega (arith, less_normal n)

-- the normal form has no more blocks than the mask
pub normal_shorter : (xs : List Block) → length (normal xs) ≤ length xs
normal_shorter xs = (less_normal (normalizes xs)).1

-- the normal form has room where the mask has
pub normal_room : (m : ℕ) (xs : List Block) → Room m xs → Room m (normal xs)
normal_room m xs r =
    record { each = each_normal (WellFormed m) (formed_merged m) (normalizes xs) r.each; sum = omega (arith, r.sum, less_normal (normalizes xs)) }

-- a reduced mask has no more blocks than its upper bounds sum to: none of them is 0
reduced_few : (xs : List Block) → Reduced xs → length xs ≤ uppers xs
reduced_few [] r = omega arith
reduced_few (x ∷ xs) (i, a, r) = omega (arith, idle_positive x i, reduced_few xs r)

-- the normal form has no more blocks than the upper bounds of the mask sum to
pub normal_few : (xs : List Block) → length (normal xs) ≤ uppers xs
normal_few xs = omega (arith, reduced_few (normal xs) (normal_reduced xs), less_normal (normalizes xs))

-- the normal form of a mask with room fits a record
pub normal_fits : (m : ℕ) (xs : List Block) → Room m xs → Fits m (normal xs)
normal_fits m xs r = record { few = omega (arith, normal_few xs); room = normal_room m xs r }

-- ---- the narrowed list

-- where each entry narrows its segment, each has l ≤ u
pub narrow_bounded : {ss : List Segment} {ys : List Block} → AllNarrow ss ys → Each Bounded ys
narrow_bounded none = tt
narrow_bounded (more n r) = (n.bounds, narrow_bounded r)

-- the uppers are those of the segments
narrow_uppers : {ss : List Segment} {ys : List Block} → AllNarrow ss ys → uppers ys ≡ uppers (map as_block ss)
narrow_uppers none = refl
narrow_uppers (more n r) = omega (arith, n.upper, narrow_uppers r)

-- and the entries are well-formed where the segments are
narrow_formed : (m : ℕ) {ss : List Segment} {ys : List Block} → AllNarrow ss ys → Each (WellFormed m) (map as_block ss) → Each (WellFormed m) ys
narrow_formed m none h = tt
narrow_formed m (more n r) (h, hs) =
    (record { bounds = n.bounds; bytes = n.bytes; letters = λ c k. h.letters c (n.within c k) }, narrow_formed m r hs)

-- l places and an optional part in front of a row
module _ (S : ℕ) (w : ℕ) (ss : List Segment) where
  -- add l and w to its uppers
  row_uppers : (l : ℕ) → uppers (map as_block ((replicate l (mandatory S) ++ optional S w ∷ []) ++ ss)) ≡ l + (w + uppers (map as_block ss))
  row_uppers zero = omega arith
  row_uppers (suc l) = omega (arith, row_uppers l)

  -- have a property where place, part and row have it
  row_each : (P : Block → Type 0) → P (block S 1 1) → P (block S 0 w) → Each P (map as_block ss)
      → (l : ℕ) → Each P (map as_block ((replicate l (mandatory S) ++ optional S w ∷ []) ++ ss))
  row_each P p o r zero = (o, r)
  row_each P p o r (suc l) = (p, row_each P p o r l)

-- the segments of a well-formed mask have its uppers
segments_uppers : (m : ℕ) (xs : List Block) → Each (WellFormed m) xs → uppers (map as_block (segments xs)) ≡ uppers xs
segments_uppers m [] h = refl
segments_uppers m (x ∷ xs) (h, hs) =
    omega (arith, row_uppers x.base (x.upper - x.lower) (segments xs) x.lower, segments_uppers m xs hs, h.bounds)

-- and are well-formed
segments_formed : (m : ℕ) (xs : List Block) → Each (WellFormed m) xs → Each (WellFormed m) (map as_block (segments xs))
segments_formed m [] h = tt
segments_formed m (x ∷ xs) (h, hs) =
    row_each x.base (x.upper - x.lower) (segments xs) (WellFormed m) (of 1 1 (omega arith)) (of 0 (x.upper - x.lower) (omega arith))
    (segments_formed m xs hs) x.lower
  where
    of : (l u : ℕ) → l ≤ u → WellFormed m (block x.base l u)
    of l u k = record { bounds = k; bytes = h.bytes; letters = h.letters }

-- the narrowed list has room where the mask has
pub list_room : (b : Dfa) (m : ℕ) (xs : List Block) → Room m xs → Room m (narrowed_list b xs)
unfolding narrowed_list
list_room b m xs r =
    let n = all_narrow b (2 ^ b.start) (segments xs) in
    record {
      each = narrow_formed m n (segments_formed m xs r.each);
      sum = omega (arith, r.sum, narrow_uppers n, segments_uppers m xs r.each);
    }

-- the narrowed mask can be written and narrowed again
pub mask_fits : (b : Dfa) (m : ℕ) (xs : List Block) → Room m xs → Fits m (narrowed_mask b xs)
unfolding narrowed_mask
mask_fits b m xs r = normal_fits m (narrowed_list b xs) (list_room b m xs r)
