-- Every entry of the narrowed list by the cuts of the legal codes (`seen_at`): all that is claimed of an entry follows.
-- Assumes nothing.
use Rattle.std.proofs.lemmas.Grind.{common_steps}
use Rattle.std.proofs.Common.{◌≡◌, ℕ, zero, suc, ◌+◌, ◌^◌, ◌<◌, ◌≤◌, ◌↔◌, List, [], ◌∷◌, ◌++◌, length, get_or, refl, arith, get_or-append-add}
use Rattle.model.specs.declared.Block.{Block}
use Rattle.model.specs.Set.{Member}
use Rattle.model.specs.DashedString.{block, block_at, Factorization, done, then}
use Rattle.model.specs.Automaton.{Dfa}
use Rattle.model.specs.Legal.{Checked}
use Rattle.model.specs.Passes.{mandatory, optional, segments_of, segments, pruned, narrowed_list}
use Rattle.model.specs.Place.{begins}
use Rattle.model.specs.Demand3.{Has}
use Rattle.model.proofs.Set.{in_one, one_in}
use Rattle.model.proofs.Segment.{Over}
use Rattle.model.proofs.Segments.{Ahead, seen}
use Rattle.model.proofs.Cut.{along, chop, chopped, glued, flatten_chop}

-- ---- where things stand

-- a piece has l + 1 parts along its block
length_along : (l : ℕ) (p : List ℕ) → length (along l p) ≡ suc l
length_along zero p = refl
length_along (suc l) [] = grind (arith, length_along l [])
length_along (suc l) (c ∷ p) = grind (arith, length_along l p)

-- behind the l + 1 entries of a block come those of the others
get_or_skip {ℓ} : {A : Type ℓ} (l a j : ℕ) (xs ys : List A) (d : A) → length xs ≡ suc l → get_or (xs ++ ys) (suc (l + a) + j) d ≡ get_or ys (a + j) d
get_or_skip l a j xs ys d e = let same : suc (l + a) + j ≡ length xs + (a + j) = omega arith in rw (same, get_or-append-add)

-- a block's entries are entries of the row
begins_lt : (xs : List Block) (i j : ℕ) → i < length xs → j ≤ (block_at xs i).lower → begins xs i + j < length (segments xs)
begins_lt [] i j h l = absurd (omega arith)
begins_lt (x ∷ xs) zero j h l = grind (arith, common_steps)
begins_lt (x ∷ xs) (suc i) j h l = grind (arith, common_steps, begins_lt xs i j)

-- a block's segments stand where its entries begin
segment_at : (xs : List Block) (i j : ℕ) → i < length xs → j ≤ (block_at xs i).lower
    → get_or (segments xs) (begins xs i + j) (optional 0 0) ≡ get_or (segments_of (block_at xs i)) j (optional 0 0)
segment_at [] i j h l = absurd (omega arith)
segment_at (x ∷ xs) zero j h l = grind (arith, common_steps)
segment_at (x ∷ xs) (suc i) j h l = grind (arith, common_steps, get_or_skip, segment_at xs i j)

-- and so do the parts of its piece
part_at : {xs : List Block} {ps : List (List ℕ)} → Factorization xs ps → (i j : ℕ) → i < length xs → j ≤ (block_at xs i).lower
    → get_or (chop xs ps) (begins xs i + j) [] ≡ get_or (along (block_at xs i).lower (get_or ps i [])) j []
part_at done i j h l = absurd (omega arith)
part_at (then {x} {xs} {p} {ps} g f) zero j h l = grind (arith, common_steps, length_along x.lower p)
part_at (then {x} {xs} {p} {ps} g f) (suc i) j h l = grind (arith, common_steps, get_or_skip, length_along x.lower p, part_at f i j)

-- ---- mandatory places

-- a letter of a piece, by its place among the parts of the piece
pub along_letter : (l j : ℕ) (p : List ℕ) → j < l → get_or (get_or (along l p) j []) 0 64 ≡ get_or p j 64
along_letter zero j p h = absurd (omega arith)
along_letter (suc l) zero [] h = refl
along_letter (suc l) zero (c ∷ p) h = refl
along_letter (suc l) (suc j) [] h = along_letter l j [] (omega arith)
along_letter (suc l) (suc j) (c ∷ p) h = along_letter l j p (omega arith)

-- a mandatory place of a block is a segment of its letters
pub place_segment : (x : Block) (j : ℕ) → j < x.lower → get_or (segments_of x) j (optional 0 0) ≡ mandatory x.base
place_segment = grind (arith, common_steps)

-- ---- every entry by the cuts of the legal codes

module _ (b : Dfa) (xs : List Block) (ok : Checked b xs) where
  -- the start is in Q0 of the first block
  pub start_in : Member b.start (2 ^ b.start)
  start_in = one_in (omega (arith, ok.states, ok.start))

  -- pieces along the row that lead from the start to an accepting state are a cut of a legal code
  cuts : (P : List (List ℕ) → Type 0) → ((q : ℕ) × Member q (2 ^ b.start) × Ahead b q (segments xs) P) ↔ Has b xs (λ ps. P (chop xs ps))
  cuts P = grind (arith, glued, chopped, flatten_chop, in_one, start_in)

  -- what the entry of place j + 1 of block i is, and for j = l that of its optional part: its segment pruned between two
  -- sets of states, between which a way with a property leads over the segment exactly when some legal code, in some cut,
  -- has a piece of block i with that property there
  pub record SeenAt (i j : ℕ) : Type 1 where
    pub from : ℕ
    pub to : ℕ
    pub entry : get_or (narrowed_list b xs) (begins xs i + j) (block 0 0 0)
        ≡ pruned b.table from (get_or (segments_of (block_at xs i)) j (optional 0 0)) to
    pub ways : (P : List ℕ → Type 0) → Over b.table from (get_or (segments_of (block_at xs i)) j (optional 0 0)) to P
        ↔ Has b xs (λ ps. P (get_or (along (block_at xs i).lower (get_or ps i [])) j []))

  -- it is so of every place and optional part of the mask
  pub seen_at : (i j : ℕ) → i < length xs → j ≤ (block_at xs i).lower → SeenAt i j
  unfolding narrowed_list
  seen_at i j h l =
      let s = seen b ok.states (2 ^ b.start) (segments xs) (begins xs i + j) (begins_lt xs i j h l) in
      record {
        from = s.from;
        to = s.to;
        entry = rw (segment_at xs i j h l) at s.entry;
        ways = λ P.
            let (there, back) = rw (segment_at xs i j h l) at (s.ways P) in
            let (cut, row) = cuts (λ qs. P (get_or qs (begins xs i + j) [])) in (
              λ g. let (ps, f, e, x) = cut (there g) in (ps, f, e, rw (part_at f i j h l) at x),
              λ (ps, f, e, x). back (row (ps, f, e, rw (part_at f i j h l) x)),
            );
      }
