-- Both passes over a whole mask.
-- Assumes nothing.
use Prim.Native.Nat.{ℕ, ◌+◌, ◌^◌}
use mathlib.Core.Path.{◌≡◌, refl, sym, ◌∙◌}
use mathlib.Core.List.{List, ◌++◌}
use lib.ListN.{length}
use Rattle.std.proofs.lemmas.List.{take_at}
use Rattle.model.specs.declared.Block.{Block}
use Rattle.model.specs.Set.{has, both, either}
use Rattle.model.specs.Automaton.{Dfa}
use Rattle.model.specs.Passes.{segments, final, finals}
use Rattle.model.specs.Verdict.{some_legal}
use Rattle.model.proofs.Set.{member, in_none, in_both, some_member_lem}
use Rattle.model.specs.Size.{lower_sum}
use Rattle.propagator.specs.Rows.{entries_to, Inside, Leaves}
use Rattle.propagator.proofs.Rows.{list_whole}

module _ (d : Dfa) (xs : List Block) (start states entries : ℕ) (first : start ≡ either 0 (2 ^ d.start))
    (behind : states ≡ final d.table start (segments xs)) (count : entries ≡ lower_sum xs + length xs)
    (end : ℕ) (e : end ≡ both states d.accepting) where
  -- step 2's states
  whole : states ≡ finals d xs
  unfolding finals
  whole = rw (behind, first) refl

  -- ys are the blocks that the way back is lent
  module _ (ys : List Block) (same : ys ≡ xs) where
    -- the states kept are possible
    pub pass_inside : Inside end (final d.table start (segments ys))
    pass_inside q m = rw (same, ← behind) (((in_both states d.accepting {i = q}).0 (rw e at m)).0)

    -- its entries, in front of what is left of the slice, are the narrowed list
    pub pass_some : (made rest : List Block) → made ≡ entries_to d.table end start (segments ys) → length made ≡ entries
        → Leaves d xs (made ++ rest) (record { states = states; entries = entries })
    pass_some made rest f size =
        record {
          states = whole;
          entries = count;
          list = λ t. take_at made rest entries size ∙ f ∙ rw (same, e, first, whole) (sym (list_whole d xs));
        }

  -- none is kept: no code is legal
  pub pass_none : (blocks : List Block) → end ≡ 0 → Leaves d xs blocks (record { states = states; entries = entries })
  unfolding some_legal
  pass_none blocks z =
      record {
        states = whole;
        entries = count;
        list = λ t.
            let (q, m, h) = (some_member_lem (finals d xs) (has d.accepting)).0 t in
            absurd (in_none (rw (← e, z) at ((in_both states d.accepting {i = q}).1 (rw whole m, member m.small h))));
      }
