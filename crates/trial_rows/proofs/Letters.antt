-- A set has at most 64 members, so that they can be counted.
-- Assumes nothing.
use Rattle.std.proofs.Common.{ℕ, ◌≤◌, length, arith}
use Rattle.std.specs.List.{range_with_len}
use Rattle.std.proofs.lemmas.List.Sums.{length-filter, count_by-le-length}
use Rattle.model.specs.Set.{has}
use Rattle.bitset.specs.Listed.{listed}

pub few_listed : (s : ℕ) → length (listed s) ≤ 64
unfolding listed
few_listed s = omega (arith, length-filter (has s) (range_with_len 0 64), count_by-le-length (has s) (range_with_len 0 64))
