-- What the functions that make a line ask of a record and tell of its bounds.
use Rattle.std.specs.Prelude.{ℕ, ◌≡◌, ◌⊎◌, List, length}
use Rattle.model.specs.declared.Block.{Block}
use Rattle.model.specs.Size.{lower_sum, uppers}
use Rattle.records.specs.WellFormed.{MaskRecord}
use Rattle.lines.specs.declared.answer.Sums.{Sums}

-- what narrow wrote: nothing, or a record
abbrev pub Recorded : List ℕ → Type 0
Recorded rs = (length rs ≡ 0) ⊎ MaskRecord rs

-- how many blocks, and both sums of the bounds
pub record Sum (xs : List Block) (r : Sums) : Type 0 where
  pub blocks : r.blocks ≡ length xs
  pub lowers : r.lowers ≡ lower_sum xs
  pub uppers : r.uppers ≡ uppers xs
