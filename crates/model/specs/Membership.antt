-- Try's two questions as tests (01, "Try"): whether the mask spells the word, and whether the book accepts it.
use Rattle.std.specs.Prelude.{ℕ, suc, Bool, true, ◌&&◌, List, [], ◌∷◌, ltb, leb, eqb, length, take, drop}
use Rattle.model.specs.declared.Block.{Block}
use Rattle.model.specs.Set.{has, some_below}
use Rattle.model.specs.Automaton.{Dfa, run}

-- the number is in the set
unfoldable pub contains : ℕ → ℕ → Bool
contains s i = ltb i 64 && has s i

-- each letter of the word is in the set
unfoldable pub within : ℕ → List ℕ → Bool
within S [] = true
within S (c ∷ w) = contains S c && within S w

-- the block spells the word: at least l and at most u letters of S
unfoldable pub piece : Block → List ℕ → Bool
piece x p = leb x.lower (length p) && leb (length p) x.upper && within x.base p

-- the mask spells the word: a front of it, of some length, is a piece of the first block, and the others spell the rest
unfoldable pub spells : List Block → List ℕ → Bool
spells [] w = eqb (length w) 0
spells (x ∷ xs) w = some_below (suc (length w)) (λ k. piece x (take k w) && spells xs (drop k w))

-- the book accepts the word: it ends in an accepting state
unfoldable pub accepts : Dfa → List ℕ → Bool
accepts b w = contains b.accepting (run b.table b.start w)
