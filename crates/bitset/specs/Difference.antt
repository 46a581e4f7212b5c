-- What is in one set and not in another.
use Rattle.std.specs.Prelude.{ℕ, not}
use Rattle.model.specs.Set.{has, members}

-- the members of s that are not in t
unfoldable pub difference : ℕ → ℕ → ℕ
difference s t = members s (λ i. not (has t i))
