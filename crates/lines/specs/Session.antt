-- A whole run of the line program over an input that comes in parts: what its loop does, turn by turn.
use Rattle.std.specs.Prelude.{ℕ, ◌≡◌, Bool, List, ◌++◌, take, drop, None, Some, Ok, Err}
use Rattle.model.specs.declared.Refusal.{Refusal}
use Rattle.lines.specs.declared.Pause.TheVariants.{Full, More, Done}
use Rattle.lines.specs.declared.Progress.{Progress}
use Rattle.lines.specs.Line.{book_line}
use Rattle.lines.specs.Parts.{Later, Advances, Opens}

-- from mask n on, with these bytes held and these to come later: each turn prints its text and goes on as its pause says
pub data Masks (bs : List ℕ) : ℕ → List ℕ → List ℕ → List ℕ → Type 0 where
  done : (ended : Bool) (n : ℕ) (held later new : List ℕ) (r : Progress)
      → Advances bs held ended n new r → r.pause ≡ Done → Later ended later → Masks bs n held later (take r.size new)
  full : (ended : Bool) (n : ℕ) (held later new text : List ℕ) (r : Progress)
      → Advances bs held ended n new r → r.pause ≡ Full → Later ended later
      → Masks bs r.number (drop r.taken held) later text → Masks bs n held later (take r.size new ++ text)
  -- more bytes are read
  more : (ended : Bool) (n : ℕ) (held read later new text : List ℕ) (r : Progress)
      → Advances bs held ended n new r → r.pause ≡ More
      → Masks bs r.number (drop r.taken held ++ read) later text → Masks bs n held (read ++ later) (take r.size new ++ text)

-- a whole run, from the start on: bytes are read until it is known what the input begins with
pub data Session : List ℕ → List ℕ → List ℕ → Type 0 where
  refused : (ended : Bool) (held later : List ℕ) (r : Refusal)
      → Opens held ended (Err r) → Later ended later → Session held later (book_line r)
  opened : (ended : Bool) (held later text : List ℕ) (k : ℕ)
      → Opens held ended (Ok (Some k)) → Masks (take k held) 1 (drop k held) later text → Session held later text
  unopened : (ended : Bool) (held read later text : List ℕ)
      → Opens held ended (Ok None) → Session (held ++ read) later text → Session held (read ++ later) text
