-- What the passes need of blocks that fit, and what they find.
-- Assumes nothing.
use Prim.Native.Nat.{ℕ, ◌^◌, ◌≤◌, ◌<◌}
use mathlib.Core.Path.{◌≡◌, sym}
use mathlib.Core.Bool.{true, false}
use mathlib.Core.List.{List, ◌++◌}
use lib.ListN.{length, take}
use lib.Seq.{take_at}
use Rattle.model.specs.declared.Block.{Block}
use Rattle.model.specs.Set.{both}
use Rattle.model.specs.DashedString.{Bounded}
use Rattle.model.specs.Automaton.{Dfa}
use Rattle.model.specs.Passes.{finals}
use Rattle.model.specs.Verdict.{some_legal}
use Rattle.model.specs.Size.{WellFormed, Fits, lower_sum, uppers}
use Rattle.bitset.proofs.Laws.{shared_test}
use Rattle.records.proofs.Checks.{each_map}
use Rattle.propagator.specs.Rows.{stored_sum}
use Rattle.propagator.proofs.Rows.{sum_uppers}
use Rattle.propagator.proofs.Stored.{stored_uppers}

-- blocks that fit ask for no more letters, and the passes store no more sets, than their upper bounds allow
pub passes_fit : (m : ℕ) (xs : List Block) → Fits m xs → (lower_sum xs ≤ uppers xs) × (stored_sum xs ≤ uppers xs)
passes_fit m xs fits = (sum_uppers xs (each_map (WellFormed m) Bounded (λ x f. f.bounds) xs fits.room.each), stored_uppers xs)

-- no code is legal, or some is, by the states among those found that accept
pub found_legal : (d : Dfa) (xs : List Block) (s : ℕ) → s < 2 ^ 64 → s ≡ finals d xs → (r : ℕ) → r ≡ both s d.accepting
    → ((r ≡ 0) → some_legal d xs ≡ false) × (¬ (r ≡ 0) → some_legal d xs ≡ true)
unfolding some_legal
found_legal d xs s small states r shared = rw (shared, ← states) (shared_test s d.accepting small)
