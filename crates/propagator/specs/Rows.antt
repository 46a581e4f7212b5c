-- Rows of segments with a given set E of states kept behind them, and the row of sets that the way forward stores.
use Rattle.std.specs.Prelude.{ℕ, zero, suc, ◌+◌, ◌-◌, ◌≡◌, List, [], ◌∷◌, ◌++◌, T, length, take, replicate, min}
use Rattle.model.specs.declared.Block.{Block}
use Rattle.model.specs.Set.{Member}
use Rattle.model.specs.Automaton.{Table, Dfa}
use Rattle.model.specs.Passes.{Segment, segments_of, before, between, forward, backward, pruned, final, finals, narrowed_list}
use Rattle.model.specs.Verdict.{some_legal}
use Rattle.model.specs.Size.{lower_sum}
use Rattle.propagator.specs.declared.Passed.{Passed}
use Rattle.propagator.specs.declared.places.Kept.{Kept}
use Rattle.propagator.specs.Moves.{exactly}

-- the states kept before the row, where E are those kept behind it
unfoldable pub kept_to : Table → ℕ → ℕ → List Segment → ℕ
kept_to t E Q [] = E
kept_to t E Q (s ∷ ss) = backward t Q s (kept_to t E (forward t Q s) ss)

-- what each segment of the row becomes, where E are the states kept behind it
unfoldable pub entries_to : Table → ℕ → ℕ → List Segment → List Block
entries_to t E Q [] = []
entries_to t E Q (s ∷ ss) = let P = forward t Q s in pruned t Q s (kept_to t E P ss) ∷ entries_to t E P ss

-- step 5, of a place with letters of S that has the states Q before it and the states E kept behind it: its letters, and the states
-- kept before it
pub record Becomes (t : Table) (S Q E : ℕ) (kept : Kept) : Type 0 where
  pub letter : kept.letters ≡ between t S Q E
  pub state : kept.states ≡ before t S Q E

-- each member of E is in Q
abbrev pub Inside : ℕ → ℕ → Type 0
Inside E Q = (q : ℕ) → Member q E → Member q Q

-- Q1 to Ql of l places, where Q is Q0
unfoldable pub places_of : Table → ℕ → ℕ → ℕ → List ℕ
places_of t S Q zero = []
places_of t S Q (suc l) = places_of t S Q l ++ exactly t S Q (suc l) ∷ []

-- how many sets step 1 stores for a block: Q1 to Ql and, where l < u, R
abbrev pub sets_of : Block → ℕ
sets_of x = min x.upper (x.lower + 1)

-- for each of the blocks
unfoldable pub stored_sum : List Block → ℕ
stored_sum [] = 0
stored_sum (x ∷ xs) = sets_of x + stored_sum xs

-- the sets of a block, where Q is Q0
unfoldable pub stored_by : Table → ℕ → Block → List ℕ
stored_by t Q x = places_of t x.base Q x.lower ++ replicate (sets_of x - x.lower) (final t Q (segments_of x))

-- those of each of the blocks, where Q is the first block's Q0
unfoldable pub stored : Table → ℕ → List Block → List ℕ
stored t Q [] = []
stored t Q (x ∷ xs) = stored_by t Q x ++ stored t (final t Q (segments_of x)) xs

-- what both passes over the blocks xs leave in the slice: the states possible behind the last block, how many entries there are,
-- and, where some code is legal, the entries themselves
pub record Leaves (d : Dfa) (xs : List Block) (blocks : List Block) (passed : Passed) : Type 0 where
  pub states : passed.states ≡ finals d xs
  pub entries : passed.entries ≡ lower_sum xs + length xs
  pub list : T (some_legal d xs) → take passed.entries blocks ≡ narrowed_list d xs
