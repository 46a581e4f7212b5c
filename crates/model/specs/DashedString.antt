-- Blocks, masks and what they spell (01, "Letters, codes, blocks"). A letter is its number; a word (01: a code) is a list
-- of letters; a dashed string (01: a mask) is a list of blocks.
use Rattle.std.specs.Prelude.{ℕ, zero, suc, ◌≤◌, ◌≡◌, length, get_or}
use mathlib.Core.List.{List, [], ◌∷◌, flatten}
use Rattle.model.specs.declared.Block.{Block}
use Rattle.model.specs.Set.{Member}

-- the block of a set S and bounds l, u
abbrev pub block : ℕ → ℕ → ℕ → Block
block S l u = record { base = S; lower = l; upper = u }

-- f 0, f 1 and so on, k of them
abbrev pub values : (ℕ → Block) → ℕ → List Block
values f zero = []
values f (suc k) = f 0 ∷ values (λ j. f (suc j)) k

-- each block has the property
abbrev pub Each : (Block → Type 0) → List Block → Type 0
Each P [] = Unit {0}
Each P (x ∷ xs) = P x × Each P xs

-- block i of a mask, i from 0
abbrev pub block_at : List Block → ℕ → Block
block_at xs i = get_or xs i (block 0 0 0)

-- l ≤ u
abbrev pub Bounded : Block → Type 0
Bounded x = x.lower ≤ x.upper

-- each letter of the word is in the set
pub data Within (S : ℕ) : List ℕ → Type 0 where
  nil : Within S []
  cons : {c : ℕ} {w : List ℕ} → Member c S → Within S w → Within S (c ∷ w)

-- the block spells the word: at least l and at most u letters of S
pub record Piece (x : Block) (p : List ℕ) : Type 0 where
  pub within : Within x.base p
  pub enough : x.lower ≤ length p
  pub few : length p ≤ x.upper

-- a factorization (01: a cut): one piece for each block, in order
pub data Factorization : List Block → List (List ℕ) → Type 0 where
  done : Factorization [] []
  then : {x : Block} {xs : List Block} {p : List ℕ} {ps : List (List ℕ)} → Piece x p → Factorization xs ps → Factorization (x ∷ xs) (p ∷ ps)

-- the mask spells the word: it is the joining of the pieces of some cut
abbrev pub Matches : List Block → List ℕ → Type 0
Matches xs w = (ps : List (List ℕ)) × Factorization xs ps × (flatten ps ≡ w)
