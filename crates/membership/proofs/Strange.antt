-- Check 13: what it leaves of a word.
-- Assumes nothing.
use Rattle.std.proofs.Common.{◌≡◌, ℕ, false, leb, ◌↔◌, List, refl, arith}
use Rattle.std.proofs.lemmas.List.Folds.{list_any_at}
use Rattle.std.proofs.lemmas.List.Recursion.{or_from_places}
use Rattle.std.specs.List.{list_any}
use Rattle.membership.specs.Word.{strange, Letters}

-- no letter is m or above: each is below m
pub none_strange : (m : ℕ) (w : List ℕ) → (strange m w ≡ false) ↔ Letters m w
unfolding strange
none_strange m w = (
  λ e i h. grind (arith, list_any_at (leb m) w i 0 h),
  λ f. or_from_places (list_any (leb m)) (leb m) refl (λ x xs. refl) w 0 (λ i h. grind (arith, f i h)),
)
