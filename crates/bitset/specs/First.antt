-- The least member of a set.
use Rattle.std.specs.Prelude.{ℕ, ◌≤◌}
use Rattle.model.specs.Set.{Member}

-- i is the least member of s
pub record First (i s : ℕ) : Type 0 where
  pub member : Member i s
  pub least : (j : ℕ) → Member j s → i ≤ j
