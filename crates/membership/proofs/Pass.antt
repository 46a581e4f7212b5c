-- One block's pass over the positions of a word: of the marked positions with enough letters behind them, the last decides.
-- Assumes nothing.
use Rattle.std.proofs.lemmas.Grind.{common_steps}
use Rattle.std.proofs.Common.{◌≡◌, ℕ, ◌+◌, ◌-◌, ◌<◌, ◌≤◌, Bool, false, T, ◌↔◌, List, length, set, arith, get_or-set_other, get_or-set_same, below_more}
use mathlib.Core.Logic.Iff
use Rattle.model.specs.declared.Block.{Block}
use Rattle.model.proofs.Set.{member}
use Rattle.membership.specs.Word.{Letters}
use Rattle.membership.specs.Marks.{marked, outside, Last, Ends}
use Rattle.membership.proofs.Behind.{piece_at}

module _ (x : Block) (w : List ℕ) (from to : List Bool) (start after j : ℕ) (in-word : j ≤ length w) (letters : Letters 64 w)
    (run : Last (outside x.base w) j start) (latest : Last (marked from) (j + 1 - x.lower) after) where
  -- a piece of the block ends at j exactly where one does that begins at the last marked position with enough letters
  ends_exact : ((start < after) × (j < after + x.upper)) ↔ Ends x w from j
  ends_exact = grind (arith, common_steps, piece_at, member)

  -- marked so, it stands with the positions before it
  pub ends_here : (r : Bool) → j < length to → (T r ↔ ((start < after) × (j < after + x.upper)))
      → ((k : ℕ) → k < j → T (marked to k) ↔ Ends x w from k) → (k : ℕ) → k < j + 1 → T (marked (set to j r) k) ↔ Ends x w from k
  ends_here r h e done =
      below_more (λ k. T (marked (set to j r) k) ↔ Ends x w from k) j
      (λ k g. rw (get_or-set_other to j k r false (λ (d : k ≡ j). omega arith)) (done k g))
      (rw (get_or-set_same to j r false h) (Iff.trans e ends_exact))
