-- A mask is compared with a word block by block, by marks on the word's positions: position j stands behind the first j
-- letters.
use Rattle.std.specs.Prelude.{ℕ, ◌+◌, ◌-◌, ◌≤◌, ◌<◌, ◌≡◌, ◌↔◌, Bool, false, not, List, T, length, get_or, take, drop, Option, None, Some}
use Rattle.model.specs.declared.Block.{Block}
use Rattle.model.specs.DashedString.{Piece, Matches}
use Rattle.model.specs.Set.{has}

-- position j is marked
abbrev pub marked : List Bool → ℕ → Bool
marked marks j = get_or marks j false

-- letter k of the word is not in the set
abbrev pub outside : ℕ → List ℕ → ℕ → Bool
outside S w k = not (has S (get_or w k 0))

-- a is one more than the last number below n that passes the test, or 0 where none does
pub record Last (p : ℕ → Bool) (n a : ℕ) : Type 0 where
  pub found : 0 < a → (a ≤ n) × T (p (a - 1))
  pub none : (i : ℕ) → a ≤ i → i < n → p i ≡ false

-- one more than a number, or 0 where there is none
abbrev pub one_more : Option ℕ → ℕ
one_more None = 0
one_more (Some i) = i + 1

-- the block's piece ends at position j: it spells the letters from some marked position to there
abbrev pub Ends : Block → List ℕ → List Bool → ℕ → Type 0
Ends x w from j = (i : ℕ) × (i ≤ j) × T (marked from i) × Piece x (drop i (take j w))

-- exactly the positions at which the block's piece ends are marked
pub record Extends (x : Block) (w : List ℕ) (from to : List Bool) : Type 0 where
  pub exact : (j : ℕ) → j ≤ length w → T (marked to j) ↔ Ends x w from j

-- position j is marked exactly where the mask spells the first j letters of the word
pub record Marks (xs : List Block) (w : List ℕ) (marks : List Bool) : Type 0 where
  pub exact : (j : ℕ) → j ≤ length w → T (marked marks j) ↔ Matches xs (take j w)
