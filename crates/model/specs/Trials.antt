-- Document 01's "Trials at the stake": the rows to be proved, and a few facts beside them.
use Rattle.std.specs.Prelude.{ℕ, ◌≡◌, Bool, true, false, List, [], ◌∷◌}
use Rattle.model.specs.declared.Block.{Block}
use Rattle.model.specs.declared.Verdict.{Verdict}
use Rattle.model.specs.declared.Verdict.TheVariants.{None, All, One, Some}
use Rattle.model.specs.DashedString.{block}
use Rattle.model.specs.Automaton.{Dfa}
use Rattle.model.specs.Membership.{spells, accepts}
use Rattle.model.specs.NormalForm.{normal}
use Rattle.model.specs.Verdict.{narrowed_mask, verdict}
use Rattle.model.specs.Place.{place}

-- a book of n states, m letters, a start, accepting states and moves, as its record lists them; 255 is no move
abbrev pub book : ℕ → ℕ → ℕ → ℕ → List ℕ → Dfa
book n m start accepting moves =
    record { table = record { states = n; letters = m; moves = moves }; start = start; accepting = accepting }

-- 0 by letter 0 to 1, 1 by letter 1 to 2, 2 by letter 2 to 1; state 1 accepts
abbrev pub A : Dfa
A = book 3 3 0 0b010 (1 ∷ 255 ∷ 255 ∷ 255 ∷ 2 ∷ 255 ∷ 255 ∷ 255 ∷ 1 ∷ [])

-- letters 0, 1, 2: 0 by 0 or 1 to 1, 1 by 2 to 2; state 2 accepts
abbrev pub B : Dfa
B = book 3 3 0 0b100 (1 ∷ 1 ∷ 255 ∷ 255 ∷ 255 ∷ 2 ∷ 255 ∷ 255 ∷ 255 ∷ [])

-- one accepting state, which loops on letters 0, 1
abbrev pub C : Dfa
C = book 1 2 0 0b1 (0 ∷ 0 ∷ [])

-- book and mask, with verdict and narrowed mask, or none; a mask and its normal form; book, mask, block number and place,
-- with the entry that place returns; book, mask and word, with try's two answers
pub data Row : Type 0 where
  gives : Dfa → List Block → Verdict → List Block → Row
  none : Dfa → List Block → Row
  tidies : List Block → List Block → Row
  shows : Dfa → List Block → ℕ → ℕ → Block → Row
  tries : Dfa → List Block → List ℕ → Bool → Bool → Row

-- the definitions give what the row says
abbrev pub Holds : Row → Type 0
Holds (gives b xs v ys) = ◌≡◌ {A = Verdict × List Block} (verdict b xs, narrowed_mask b xs) (v, ys)
Holds (none b xs) = verdict b xs ≡ None
Holds (tidies xs ys) = normal xs ≡ ys
Holds (shows b xs i j x) = place b xs i j ≡ x
Holds (tries b xs w m a) = ◌≡◌ {A = Bool × Bool} (spells xs w, accepts b w) (m, a)

-- each row holds
abbrev pub AllHold : List Row → Type 0
AllHold [] = Unit {0}
AllHold (r ∷ rs) = Holds r × AllHold rs

-- 01's rows, in its order; a set is written in binary, letter 0 on the right
unfoldable pub rows : List Row
rows =
    gives A (block 0b111 0 2 ∷ []) Some (block 0b111 1 2 ∷ [])
    ∷ gives A (block 0b111 1 1 ∷ []) One (block 0b001 1 1 ∷ [])
    ∷ gives B (block 0b111 2 2 ∷ []) Some (block 0b011 1 1 ∷ block 0b100 1 1 ∷ [])
    ∷ gives B (block 0b011 1 1 ∷ block 0b100 1 1 ∷ []) All (block 0b011 1 1 ∷ block 0b100 1 1 ∷ [])
    ∷ gives B (block 0b010 1 1 ∷ block 0b101 1 1 ∷ []) One (block 0b010 1 1 ∷ block 0b100 1 1 ∷ [])
    ∷ none B (block 0b100 1 3 ∷ [])
    ∷ none B []
    ∷ gives C [] All []
    ∷ none C (block 0b00 1 1 ∷ [])
    ∷ gives C (block 0b01 1 2 ∷ block 0b01 0 3 ∷ []) All (block 0b01 1 5 ∷ [])
    ∷ []

-- five states in a ring on letter 0; the start accepts
abbrev pub ring : Dfa
ring = book 5 1 0 0b1 (1 ∷ 2 ∷ 3 ∷ 4 ∷ 0 ∷ [])

-- beside them: joining comes after dropping ("Faults we would expect"); b passes only states of R (step 3), so that no letter
-- stays; a place of a second block, its optional part, and none; try is not greedy ("Faults we would expect"), and a code of the
-- book that the mask lacks, being too long or too short
unfoldable pub others : List Row
others =
    tidies (block 0b01 0 1 ∷ block 0b10 0 0 ∷ block 0b01 0 1 ∷ []) (block 0b01 0 2 ∷ [])
    ∷ gives ring (block 0b1 0 3 ∷ []) One []
    ∷ shows B (block 0b010 1 1 ∷ block 0b101 1 1 ∷ []) 2 1 (block 0b100 1 1)
    ∷ shows C (block 0b01 1 2 ∷ block 0b01 0 3 ∷ []) 2 0 (block 0b01 0 3)
    ∷ shows B (block 0b100 1 3 ∷ []) 1 1 (block 0 0 0)
    ∷ tries C (block 0b01 0 2 ∷ block 0b01 1 1 ∷ []) (0 ∷ 0 ∷ []) true true
    ∷ tries A (block 0b111 0 2 ∷ []) (0 ∷ 1 ∷ 2 ∷ []) false true
    ∷ tries C (block 0b01 2 3 ∷ []) (0 ∷ []) false true
    ∷ []
