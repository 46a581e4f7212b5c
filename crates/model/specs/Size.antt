-- Sums of bounds, and what lets a mask be written as a record and taken again: checks 4, 7, 8 and 9 of 01.
use Rattle.std.specs.Prelude.{ℕ, ◌+◌, ◌^◌, ◌≤◌, ◌<◌, List, [], ◌∷◌, length}
use Rattle.model.specs.declared.Block.{Block}
use Rattle.model.specs.Set.{Member}
use Rattle.model.specs.DashedString.{Each, Bounded}

-- the sum of the upper bounds
abbrev pub uppers : List Block → ℕ
uppers [] = 0
uppers (x ∷ xs) = x.upper + uppers xs

-- the sum of the lower bounds
unfoldable pub lower_sum : List Block → ℕ
lower_sum [] = 0
lower_sum (x ∷ xs) = x.lower + lower_sum xs

-- l ≤ u, and the set is 8 bytes whose letters are all below m
pub record WellFormed (m : ℕ) (x : Block) : Type 0 where
  pub bounds : Bounded x
  pub bytes : x.base < 2 ^ 64
  pub letters : (c : ℕ) → Member c x.base → c < m

-- well-formed blocks (checks 7 and 9), with uppers that sum to at most 1,024 (check 8)
pub record Room (m : ℕ) (xs : List Block) : Type 0 where
  pub each : Each (WellFormed m) xs
  pub sum : uppers xs ≤ 1024

-- at most 1,024 blocks (check 4), with room
pub record Fits (m : ℕ) (xs : List Block) : Type 0 where
  pub few : length xs ≤ 1024
  pub room : Room m xs
