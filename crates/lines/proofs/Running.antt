-- The lines of a part of the input, mask by mask.
-- Assumes nothing.
use Prim.Native.Nat.{ℕ, ◌+◌, ◌-◌, ◌≤◌, ◌<◌}
use mathlib.Core.Path.{◌≡◌, sym, ◌∙◌, ap}
use mathlib.Core.Bool.{Bool}
use mathlib.Core.List.{List, ◌++◌, append-nil, append_assoc}
use native.Mathlib.Omega.{arith}
use lib.ListN.{length, take, drop, length-append, length-take, length-drop}
use lib.Seq.{drop-drop, length-take-le, take-append-add, take-append-le}
use Rattle.std.specs.Prelude.{Some}
use Rattle.records.proofs.Over.{part_rest}
use Rattle.lines.specs.declared.Pause.TheVariants.{Done}
use Rattle.lines.specs.declared.masks.Step.TheVariants.{Passed, Last}
use Rattle.lines.specs.Output.{mask_lines, lines_from}
use Rattle.lines.specs.Parts.{Later, Advances, Steps}

-- the loop before a mask: the text is what is printed first, and the rest is printed for what is not taken
pub record Running (bs input : List ℕ) (ended : Bool) (first : ℕ) (out : List ℕ) (taken size number : ℕ) : Type 0 where
  pub within : taken ≤ length input
  pub filled : size ≤ length out
  pub lines : (later : List ℕ) → Later ended later
      → lines_from bs first (input ++ later) ≡ take size out ++ lines_from bs number (drop taken input ++ later)

-- a text put behind the first bytes of a buffer: r bytes are filled then
pub record Appends (text old : List ℕ) (at : ℕ) (new : List ℕ) (r : ℕ) : Type 0 where
  pub size : r ≡ at + length text
  pub filled : take r new ≡ take at old ++ text

-- a text copied to the bytes from at on, as these are lent and come back
pub put_behind : (text old part behind : List ℕ) (at r : ℕ) → at ≤ length old → (r ≡ length text) × (take r part ≡ text)
    → Appends text old at (take at old ++ (part ++ behind)) (at + r)
put_behind text old part behind at r h (e, f) = record { size = rw e; filled = filled }
  where
    room : r ≤ length part
    room = omega (arith, e, ap length f, length-take r part)

    filled : take (at + r) (take at old ++ (part ++ behind)) ≡ take at old ++ text
    filled =
        rw (length-take-le at old h) at (take-append-add (take at old) (part ++ behind) r)
        ∙ ap (λ l. take at old ++ l) (take-append-le r part behind room ∙ f)

-- text that was put lies within the buffer
pub put_within : (text old : List ℕ) (at : ℕ) (new : List ℕ) (r : ℕ) → Appends text old at new r → at ≤ length old → r ≤ length new
put_within text old at new r put h =
    omega (arith, put.size, ap length put.filled, length-take r new, length-take at old, length-append (take at old) text)

module _ {bs input : List ℕ} {ended : Bool} {first : ℕ} {out : List ℕ} {taken size number : ℕ}
    (running : Running bs input ended first out taken size number) where
  -- no more is read after the last number
  pub running_done : 4294967295 < number
      → Advances bs input ended first out (record { taken = taken; size = size; number = number; pause = Done })
  unfolding lines_from mask_lines
  running_done h =
      let none : 4294967296 - number ≡ 0 = omega arith in
      record {
        lines = λ later l. rw none at (running.lines later l);
        taken = running.within;
        size = running.filled;
        why = tt;
      }

  -- one mask more, over the part that is not taken: its line is put behind the others
  pub running_more : {out' text : List ℕ} {k s : ℕ} → Steps bs (take (length input - taken) (drop taken input)) ended number (Some (Passed k text))
      → Appends text out size out' s
      → Running bs input ended first out' (taken + k) s (number + 1)
  running_more {out'} {text} {k} {s} steps put =
      let (fits, next) = rw (part_rest taken input) at steps in
      record {
        within = omega (arith, running.within, fits, length-drop taken input);
        filled = put_within text out size out' s put running.filled;
        lines = λ later h.
            running.lines later h ∙ ap (λ l. take size out ++ l) (next later)
            ∙ sym (append_assoc (take size out) text _)
            ∙ rw (put.filled, drop-drop k taken input);
      }

  -- the last line
  pub running_last : {out' text : List ℕ} {s : ℕ} → Steps bs (take (length input - taken) (drop taken input)) ended number (Some (Last text))
      → Appends text out size out' s
      → Advances bs input ended first out' (record { taken = taken; size = s; number = number; pause = Done })
  running_last {out'} {text} {s} steps put =
      let ends = rw (part_rest taken input) at steps in
      record {
        lines = λ later h. running.lines later h ∙ ap (λ l. take size out ++ l) (ends later h) ∙ rw (put.filled, append-nil);
        taken = running.within;
        size = put_within text out size out' s put running.filled;
        why = tt;
      }
