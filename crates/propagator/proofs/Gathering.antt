-- Members of a set, one at a time.
-- Assumes nothing.
use Prim.Native.Nat.{ℕ, ◌<◌}
use mathlib.Core.Path.{◌≡◌, refl}
use mathlib.Core.Logic.{◌⊎◌, inl, inr}
use mathlib.Core.Bool.{Bool, true, false}
use native.Mathlib.Omega.{arith}
use Rattle.bitset.specs.Listed.{listed}
use Rattle.bitset.proofs.Listed.{in_listed}
use mathlib.Core.List.{◌∷◌}
use Rattle.model.specs.Set.{has, Member}
use Rattle.model.proofs.Set.{member}

-- a number below 64 is in a set or not
pub inside_or_not : (s : ℕ) {i : ℕ} → i < 64 → Member i s ⊎ ¬ Member i s
inside_or_not s {i} h = go (has s i) refl
  where
    go : (v : Bool) → has s i ≡ v → Member i s ⊎ ¬ Member i s
    go true e = inl (member h (rw e tt))
    go false e = inr (λ m. rw e at m.there)

-- what comes first of those left is below 64
pub comes_small : (t x u : ℕ) → listed t ≡ x ∷ listed u → x < 64
comes_small t x u e = ((in_listed t x).0 (rw e (0, omega arith, refl))).small
