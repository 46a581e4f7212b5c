-- Legal codes (01, "Letters, codes, blocks"), and what the checks leave of a book and a mask (01, checks 4, 6 and 7).
use Rattle.std.specs.Prelude.{ℕ, ◌<◌, List}
use Rattle.model.specs.declared.Block.{Block}
use Rattle.model.specs.DashedString.{Each, Bounded, Matches}
use Rattle.model.specs.Automaton.{Dfa, Accepts}

-- the mask spells the word and the book accepts it
abbrev pub Legal : Dfa → List Block → List ℕ → Type 0
Legal b xs w = Matches xs w × Accepts b w

-- all that the theorems need of a book and a mask that pass the checks: n is at most 63, the start is a state, l ≤ u
pub record Checked (b : Dfa) (xs : List Block) : Type 0 where
  pub states : b.table.states < 64
  pub start : b.start < b.table.states
  pub bounds : Each Bounded xs
