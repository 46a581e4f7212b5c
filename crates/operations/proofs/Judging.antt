-- The verdict, from the states that are possible behind the last block and from the blocks of the normal form.
-- Assumes nothing.
use Prim.Native.Nat.{ℕ, ◌^◌, ◌<◌}
use mathlib.Core.Path.{◌≡◌, refl, ◌∙◌, sym, ap}
use mathlib.Core.Bool.{Bool, true, false, not, ◌&&◌}
use mathlib.Core.List.{List, [], ◌∷◌}
use native.Mathlib.Omega.{arith}
use lib.Bits.{and_le_l}
use lib.Dec.{T_not, not_T}
use Rattle.std.specs.List.{list_all}
use Rattle.model.specs.declared.Block.{Block}
use Rattle.model.specs.declared.Verdict.TheVariants.{All, One, Some}
use Rattle.model.specs.Set.{has, both, some_member}
use Rattle.model.specs.Verdict.{single, every, say}
use Rattle.model.proofs.Set.{member, in_both, some_member_lem}
use Rattle.model.proofs.Demand3.{stable}
use Rattle.bitset.proofs.Laws.{decided, same_members}

-- ---- single blocks

-- whether each block is single
pub every_single : (xs : List Block) → list_all single xs ≡ every single xs
unfolding every
every_single [] = refl
every_single (x ∷ xs) = ap (◌&&◌ (single x)) (every_single xs)

-- ---- legal codes and others

-- states s, of which those in a accept
module _ (s a : ℕ) (small : s < 2 ^ 64) where
  -- each accepts exactly when they share them all
  abbrev strays : Bool
  strays = some_member s (λ q. not (has a q))

  illegal_test : ((both s a ≡ s) → strays ≡ false) × (¬ (both s a ≡ s) → strays ≡ true)
  illegal_test = decided strays (
    λ e t.
        let (q, m, g) = (some_member_lem s (λ q. not (has a q))).0 t in
        T_not (has a q) g ((in_both s a).0 (rw e m)).1.there,
    λ n.
        same_members (both s a) s (omega (arith, and_le_l s a)) small
        (λ q. (
          λ m. ((in_both s a).0 m).0,
          λ m. (in_both s a).1 (m, member m.small (stable (has a q) (λ f. n ((some_member_lem s (λ q. not (has a q))).1 (q, m, not_T (has a q) f))))),
        )),
  )

  -- the first verdict that fits, where some code is legal
  module _ (r : ℕ) (shared : r ≡ both s a) where
    pub judge_all : (singles : Bool) → r ≡ s → All ≡ say true strays singles
    judge_all singles e = rw (illegal_test.0 (sym shared ∙ e))

    pub judge_one : (singles : Bool) → ¬ (r ≡ s) → singles ≡ true → One ≡ say true strays singles
    judge_one singles n t = rw (illegal_test.1 (λ e. n (shared ∙ e)), t)

    pub judge_some : (singles : Bool) → ¬ (r ≡ s) → singles ≡ false → Some ≡ say true strays singles
    judge_some singles n t = rw (illegal_test.1 (λ e. n (shared ∙ e)), t)
