-- The passes (01, "The passes", steps 1 to 5). 01 goes block by block and, in a block, over its places 1 to l and then
-- its optional part. Here these stand in one row of segments, and each pass is one recursion over the row. Before place j
-- of a block stand Qj−1 and Mj−1, behind it Qj and Mj; before the optional part Ql and Ml, behind it R and the block's E.
-- Below, Q is the set of states possible before a segment, and E the set of states kept behind it.
use Rattle.std.specs.Prelude.{ℕ, zero, suc, ◌-◌, ◌^◌, Bool, true, false, List, [], ◌∷◌, ◌++◌, replicate}
use Rattle.model.specs.declared.Block.{Block}
use Rattle.model.specs.Set.{has, both, either, some_member, members, union_of}
use Rattle.model.specs.DashedString.{block}
use Rattle.model.specs.Automaton.{Table, Dfa, next}

-- a mandatory place with letters of S; an optional part of at most w letters of S
pub data Segment : Type 0 where
  mandatory : ℕ → Segment
  optional : ℕ → ℕ → Segment

-- a block: its places 1 to l, and then its optional part
abbrev pub segments_of : Block → List Segment
segments_of x = replicate x.lower (mandatory x.base) ++ optional x.base (x.upper - x.lower) ∷ []

-- a mask, block by block
abbrev pub segments : List Block → List Segment
segments [] = []
segments (x ∷ xs) = segments_of x ++ segments xs

-- the states after one letter of S from the state q
unfoldable pub reach : Table → ℕ → ℕ → ℕ
reach t S q = union_of S (λ c. 2 ^ next t q c)

-- step 1: the states after one letter of S from states of Q, the dead state among them
unfoldable pub after : Table → ℕ → ℕ → ℕ
after t S Q = union_of Q (reach t S)

-- steps 3 and 5: the states of Q from which some move by a letter of S goes to a state of E
unfoldable pub before : Table → ℕ → ℕ → ℕ → ℕ
before t S Q E = members Q (λ q. some_member S (λ c. has E (next t q c)))

-- steps 4 and 5: the letters of S by which some move goes from a state of Q to a state of E
unfoldable pub between : Table → ℕ → ℕ → ℕ → ℕ
between t S Q E = members S (λ c. some_member Q (λ q. has E (next t q c)))

-- Q, and k times over what f adds to what is there
unfoldable pub rounds : (ℕ → ℕ) → ℕ → ℕ → ℕ
rounds f Q zero = Q
rounds f Q (suc k) = let P = rounds f Q k in either P (f P)

-- step 1, R: the states reached from Q by at most w letters of S
abbrev pub at_most : Table → ℕ → ℕ → ℕ → ℕ
at_most t S Q w = rounds (after t S) Q w

-- step 3, b by its levels: the states q with b(q) ≤ d, from which at most d letters of S lead to E through states of R
abbrev pub to_end : Table → ℕ → ℕ → ℕ → ℕ → ℕ
to_end t S R E d = rounds (before t S R) E d

-- the first of the k numbers from i on that passes the test, or i + k where none does
unfoldable pub first : ℕ → ℕ → (ℕ → Bool) → ℕ
first zero i p = i
first (suc k) i p = elim (p i) [ true ↦ i | false ↦ first k (suc i) p ]

-- step 4, the lower bound: the least b(q) over Q, or w where none is below w
unfoldable pub fewest : Table → ℕ → ℕ → ℕ → ℕ → ℕ → ℕ
fewest t S R E Q w = first w 0 (λ d. some_member Q (has (to_end t S R E d)))

-- step 1: the states behind a segment, Qj from Qj−1 at a place and R from Ql at the optional part
unfoldable pub forward : Table → ℕ → Segment → ℕ
forward t Q (mandatory S) = after t S Q
forward t Q (optional S w) = at_most t S Q w

-- the states kept before a segment: step 5's Mj−1 from Mj at a place, step 4's Ml at the optional part
unfoldable pub backward : Table → ℕ → Segment → ℕ → ℕ
backward t Q (mandatory S) E = before t S Q E
backward t Q (optional S w) E = both Q (to_end t S (at_most t S Q w) E w)

-- what a segment becomes: step 5's block with bounds 1, 1 at a place; step 4's block at the optional part, where a letter
-- stays by a move from R to a state q of R with b(q) + 1 ≤ w, so that for w = 0 none stays
unfoldable pub pruned : Table → ℕ → Segment → ℕ → Block
pruned t Q (mandatory S) E = block (between t S Q E) 1 1
pruned t Q (optional S zero) E = block 0 0 0
pruned t Q (optional S (suc v)) E =
    let R = at_most t S Q (suc v) in
    block (between t S R (both R (to_end t S R E v))) (fewest t S R E Q (suc v)) (suc v)

-- the states possible behind the row of segments
unfoldable pub final : Table → ℕ → List Segment → ℕ
final t Q [] = Q
final t Q (s ∷ ss) = final t (forward t Q s) ss

-- the states kept before the row of segments; behind its end these are step 2's E, the accepting states
unfoldable pub kept : Dfa → ℕ → List Segment → ℕ
kept b Q [] = both Q b.accepting
kept b Q (s ∷ ss) = backward b.table Q s (kept b (forward b.table Q s) ss)

-- what each segment of the row becomes
unfoldable pub entries : Dfa → ℕ → List Segment → List Block
entries b Q [] = []
entries b Q (s ∷ ss) = let P = forward b.table Q s in pruned b.table Q s (kept b P ss) ∷ entries b P ss

-- step 2: the states possible behind the last block; the first block's Q0 is the start alone
unfoldable pub finals : Dfa → List Block → ℕ
finals b xs = final b.table (2 ^ b.start) (segments xs)

-- the narrowed list: block by block, the places in order and then the optional part
unfoldable pub narrowed_list : Dfa → List Block → List Block
narrowed_list b xs = entries b (2 ^ b.start) (segments xs)
