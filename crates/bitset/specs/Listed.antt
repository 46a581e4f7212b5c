-- The members of a set as a list.
use Rattle.std.specs.Prelude.{ℕ, List, filter}
use Rattle.std.specs.List.{range_with_len}
use Rattle.model.specs.Set.{has}

-- in increasing order
unfoldable pub listed : ℕ → List ℕ
listed s = filter (has s) (range_with_len 0 64)
