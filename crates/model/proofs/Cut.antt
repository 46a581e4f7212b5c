-- A cut along the blocks is a cut along the segments: each piece's first l letters one by one, and the rest. So the row
-- of segments spells what the mask spells.
-- Assumes nothing.
use Rattle.std.proofs.Common.{◌≡◌, ℕ, zero, suc, ◌+◌, ◌-◌, ◌≤◌, ◌↔◌, List, [], ◌∷◌, ◌++◌, map, length, replicate, sym, refl, ap, ◌∙◌, ap₂, zero-le, arith}
use mathlib.Core.List.{flatten}
use Rattle.model.specs.declared.Block.{Block}
use Rattle.model.specs.DashedString.{block, Each, Bounded, Within, nil, cons, Factorization, done, then, Matches}
use Rattle.model.specs.Passes.{Segment, mandatory, optional, segments}
use Rattle.model.proofs.Segment.{as_block, one_letter, letter_piece}
use Rattle.model.proofs.Segments.{Parts}

-- a piece along the segments of its block: the first l letters one by one, and then the rest
abbrev pub along : ℕ → List ℕ → List (List ℕ)
along zero p = p ∷ []
along (suc l) [] = [] ∷ along l []
along (suc l) (c ∷ p) = (c ∷ []) ∷ along l p

-- a cut along the segments, from one along the blocks
abbrev pub chop : List Block → List (List ℕ) → List (List ℕ)
chop [] ps = []
chop (x ∷ xs) [] = []
chop (x ∷ xs) (p ∷ ps) = along x.lower p ++ chop xs ps

-- a piece so cut spells the same word
flatten_along : (l : ℕ) (p : List ℕ) (qs : List (List ℕ)) → flatten (along l p ++ qs) ≡ p ++ flatten qs
unfolding flatten
flatten_along zero p qs = refl
flatten_along (suc l) [] qs = flatten_along l [] qs
flatten_along (suc l) (c ∷ p) qs = ap (◌∷◌ c) (flatten_along l p qs)

-- and so does a cut
pub flatten_chop : {xs : List Block} {ps : List (List ℕ)} → Factorization xs ps → flatten (chop xs ps) ≡ flatten ps
unfolding flatten
flatten_chop done = refl
flatten_chop (then {x} {xs} {p} {ps} g f) = flatten_along x.lower p (chop xs ps) ∙ ap (◌++◌ p) (flatten_chop f)

-- a word of S, of at least l letters and at most w more, along l places and an optional part
along_parts : (S l w : ℕ) (ss : List Segment) {p : List ℕ} {qs : List (List ℕ)} → Within S p → l ≤ length p → length p ≤ l + w
    → Parts ss qs → Parts ((replicate l (mandatory S) ++ optional S w ∷ []) ++ ss) (along l p ++ qs)
along_parts S zero w ss h l f r = then {x = block S 0 w} (record { within = h; enough = zero-le; few = omega arith }) r
along_parts S (suc k) w ss nil l f r = absurd (omega arith)
along_parts S (suc k) w ss (cons n h) l f r = then (letter_piece n) (along_parts S k w ss h (omega arith) (omega arith) r)

-- a cut along the blocks gives one along the segments
pub chopped : {xs : List Block} {ps : List (List ℕ)} → Factorization xs ps → Parts (segments xs) (chop xs ps)
chopped done = done
chopped (then {x} {xs} g f) =
    along_parts x.base x.lower (x.upper - x.lower) (segments xs) g.within g.enough (omega (arith, g.few)) (chopped f)

-- pieces along l places and an optional part are a word so cut
parts_along : (S l w : ℕ) (ss : List Segment) {qs : List (List ℕ)} → Parts ((replicate l (mandatory S) ++ optional S w ∷ []) ++ ss) qs
    → (p : List ℕ) × Within S p × (l ≤ length p) × (length p ≤ l + w) × (rs : List (List ℕ)) × Parts ss rs × (along l p ++ rs ≡ qs)
parts_along S zero w ss (then {p} {ps} g f) = (p, g.within, zero-le, omega (arith, g.few), ps, f, refl)
parts_along S (suc k) w ss (then {p} {ps} g f) =
    let (c, n, e) = one_letter g in
    let (p', h, l, f', rs, r, e') = parts_along S k w ss f in
    (c ∷ p', cons n h, omega arith, omega arith, rs, r, ap₂ ◌∷◌ (sym e) e')

-- a cut along the segments comes from one along the blocks
pub glued : (xs : List Block) → Each Bounded xs → {qs : List (List ℕ)} → Parts (segments xs) qs
    → (ps : List (List ℕ)) × Factorization xs ps × (chop xs ps ≡ qs)
glued [] ok done = ([], done, refl)
glued (x ∷ xs) ok h =
    let (p, n, l, f, rs, r, e) = parts_along x.base x.lower (x.upper - x.lower) (segments xs) h in
    let (ps, k, e') = glued xs ok.1 r in
    (p ∷ ps, then {x = x} (record { within = n; enough = l; few = omega (arith, ok.0) }) k, rw e' e)

-- the row of segments spells what the mask spells
pub segments_spell : (xs : List Block) → Each Bounded xs → (w : List ℕ) → Matches (map as_block (segments xs)) w ↔ Matches xs w
segments_spell = grind (arith, chopped, glued, flatten_chop)
