-- One block put in front of a normal form that stands behind it among the same blocks.
use Rattle.std.specs.Prelude.{ℕ, ◌≤◌, ◌<◌, cond, ◌≡◌, List, length, drop}
use Rattle.model.specs.declared.Block.{Block}
use Rattle.model.specs.DashedString.{block_at}
use Rattle.model.specs.NormalForm.{idle, join}

-- x in front of a normal form: dropped where it is idle, else joined
abbrev pub in_front : Block → List Block → List Block
in_front x xs = cond (idle x) xs (join x xs)

-- block i was put in front of those from at on, and they begin at r now; the blocks before i are what they were
pub record Pushed (xs : List Block) (i at : ℕ) (ys : List Block) (r : ℕ) : Type 0 where
  pub behind : i ≤ r
  pub within : r ≤ at
  pub size : length ys ≡ length xs
  pub before : (j : ℕ) → j < i → block_at ys j ≡ block_at xs j
  pub made : drop r ys ≡ in_front (block_at xs i) (drop at xs)
