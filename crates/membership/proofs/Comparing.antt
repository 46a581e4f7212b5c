-- What the loop over the blocks of a mask keeps: the marks are those of the blocks so far.
-- Assumes nothing.
use Rattle.std.proofs.lemmas.Grind.{common_steps}
use Rattle.std.proofs.Common.{◌≡◌, ℕ, zero, suc, ◌<◌, ◌≤◌, Bool, true, false, T, ◌↔◌, List, [], ◌∷◌, ◌++◌, length, get_or, take, set, replicate, refl, arith}
use Rattle.model.specs.declared.Block.{Block}
use Rattle.model.specs.DashedString.{Matches}
use Rattle.model.specs.Membership.{spells}
use Rattle.model.proofs.Words.{matches_nil}
use Rattle.model.proofs.Membership.{spells_exact}
use Rattle.bitset.proofs.Laws.{same_test}
use Rattle.membership.specs.Marks.{marked, Extends, Marks}
use Rattle.membership.proofs.Behind.{behind_at}

-- no block: only the empty word is spelled
pub marks_start : (w : List ℕ) (n : ℕ) → length w < n → Marks [] w (set (replicate n false) 0 true)
marks_start w n h = record { exact = at }
  where
    at : (j : ℕ) → j ≤ length w → T (marked (set (replicate n false) 0 true) j) ↔ Matches [] (take j w)
    at zero l = grind (arith, common_steps, (matches_nil []).1 refl)
    at (suc j) l = grind (arith, common_steps, matches_nil (take (suc j) w))

-- one block more
pub marks_more : (xs : List Block) (w : List ℕ) (x : Block) (from to : List Bool)
    → Marks xs w from → Extends x w from to → Marks (xs ++ x ∷ []) w to
marks_more xs w x from to m e =
    record { exact = λ j h. grind (arith, behind_at xs x w j h, m.exact, e.exact j h) }

-- all blocks: the last position tells
pub marks_end : (xs : List Block) (w : List ℕ) (marks : List Bool) → Marks xs w marks → get_or marks (length w) false ≡ spells xs w
marks_end = grind (arith, common_steps, spells_exact, same_test)
