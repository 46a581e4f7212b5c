-- Demand 3 (01, "What the promises hold"): one claim about a book and a whole mask with any number of blocks.
use Rattle.std.specs.Prelude.{ℕ, suc, ◌<◌, ◌≡◌, ◌↔◌, length, get_or}
use mathlib.Core.List.{List, [], ◌∷◌, ◌++◌, flatten}
use Rattle.model.specs.declared.Block.{Block}
use Rattle.model.specs.declared.Verdict.{Verdict}
use Rattle.model.specs.declared.Verdict.TheVariants.{None, All}
use Rattle.model.specs.Set.{Member}
use Rattle.model.specs.DashedString.{values, block_at, Factorization, Matches}
use Rattle.model.specs.Automaton.{Dfa, Accepts}
use Rattle.model.specs.Legal.{Legal}
use Rattle.model.specs.NormalForm.{normal}

-- some legal code, the joining of the pieces of some cut, has the property in that cut
abbrev pub Has : Dfa → List Block → (List (List ℕ) → Type 0) → Type 0
Has b xs P = (ps : List (List ℕ)) × Factorization xs ps × Accepts b (flatten ps) × P ps

-- the cut has the letter c in place j of block i, both from 0 (64 is no letter)
abbrev pub Puts : ℕ → ℕ → ℕ → List (List ℕ) → Type 0
Puts c i j ps = get_or (get_or ps i []) j 64 ≡ c

-- what place returns, block by block, for places 1 to l and then 0
abbrev pub listed : (ℕ → ℕ → Block) → List Block → List Block
listed place [] = []
listed place (x ∷ xs) = values (λ j. place 1 (suc j)) x.lower ++ place 1 0 ∷ listed (λ i. place (suc i)) xs

-- what demand 3 says of a verdict, a narrowed mask, and what place returns for each block number and place
pub record Demand3 (b : Dfa) (xs : List Block) (v : Verdict) (ys : List Block) (place : ℕ → ℕ → Block) : Type 0 where
  -- none exactly when no code of the mask is legal
  pub none : (v ≡ None) ↔ ((w : List ℕ) → ¬ Legal b xs w)
  -- all exactly when it has a code and all are legal
  pub all : (v ≡ All) ↔ (((w : List ℕ) × Matches xs w) × ((w : List ℕ) → Matches xs w → Legal b xs w))
  -- every legal code is still spelled
  pub keeps : (w : List ℕ) → Legal b xs w → Matches ys w
  -- nothing new is spelled (for none there is no narrowed mask)
  pub adds : ¬ (v ≡ None) → (w : List ℕ) → Matches ys w → Matches xs w
  -- a letter stands in a mandatory place exactly when some legal code, in some cut, has it there (place counts from 1)
  pub places : (i j c : ℕ) → i < length xs → j < (block_at xs i).lower
      → Member c (place (suc i) (suc j)).base ↔ Has b xs (Puts c i j)
  -- the narrowed mask is the normal form of the list whose entries are what place returns
  pub mask : ¬ (v ≡ None) → ys ≡ normal (listed place xs)
