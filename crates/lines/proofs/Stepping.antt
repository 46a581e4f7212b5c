-- What stands next in a part of the input settles of the lines, whatever comes later.
-- Assumes nothing.
use Prim.Native.Nat.{ℕ, suc, ◌+◌, ◌-◌, ◌≤◌}
use mathlib.Core.Path.{◌≡◌, ◌∙◌}
use mathlib.Core.List.{List, [], ◌++◌, append-nil}
use native.Mathlib.Omega.{arith}
use lib.ListN.{length, take, drop}
use lib.Seq.{take-append-le, drop-append-le, length-take-le}
use Rattle.model.specs.declared.Refusal.TheVariants.{Unframed}
use Rattle.stream.specs.declared.Next.TheVariants.{Whole, Short, Cut, End}
use Rattle.stream.specs.Stream.{next}
use Rattle.stream.proofs.Following.{tell, whole_behind, short_behind}
use Rattle.lines.specs.Line.{refused_line, mask_line}
use Rattle.lines.specs.Output.{by_next, mask_lines, lines_from}

-- a whole record lies within the input
pub whole_fits : (input : List ℕ) (k : ℕ) → Whole k ≡ next input → k ≤ length input
whole_fits input k e = let (_, _, _, fits) = tell input (Whole k) e in fits

-- ---- one mask

module _ (bs s : List ℕ) (n : ℕ) (below : n ≤ 4294967295) where
  -- one more mask may be read
  one_more : lines_from bs n s ≡ by_next (next s) (λ k. mask_line bs n (take k s) ++ lines_from bs (n + 1) (drop k s)) (refused_line n Unframed)
  unfolding lines_from mask_lines
  one_more =
      let left : 4294967296 - n ≡ suc (4294967296 - (n + 1)) = omega arith in
      let plus : suc n ≡ n + 1 = omega arith in
      rw (left, plus)

-- a whole mask
module _ (bs rest : List ℕ) (n : ℕ) (below : n ≤ 4294967295) where
  pub whole_lines : (k : ℕ) → Whole k ≡ next rest → (later : List ℕ)
      → lines_from bs n (rest ++ later) ≡ mask_line bs n (take k rest) ++ lines_from bs (n + 1) (drop k rest ++ later)
  whole_lines k e later =
      let fits = whole_fits rest k e in
      one_more bs (rest ++ later) n below
      ∙ rw (← whole_behind rest later k e, take-append-le k rest later fits, drop-append-le k rest later fits)

  pub short_lines : Short ≡ next rest → (later : List ℕ) → lines_from bs n (rest ++ later) ≡ refused_line n Unframed
  short_lines e later = one_more bs (rest ++ later) n below ∙ rw (← short_behind rest later e)

  -- the input has ended
  module _ (later : List ℕ) (none : later ≡ []) where
    pub cut_lines : Cut ≡ next rest → lines_from bs n (rest ++ later) ≡ refused_line n Unframed
    cut_lines e = rw (none, append-nil) (one_more bs rest n below ∙ rw (← e))

    pub end_lines : End ≡ next rest → lines_from bs n (rest ++ later) ≡ []
    end_lines e = rw (none, append-nil) (one_more bs rest n below ∙ rw (← e))

-- by what stands next, what the lines are
pub ruleset next_lines = (whole_fits, length-take-le, whole_lines, short_lines, cut_lines, end_lines)
