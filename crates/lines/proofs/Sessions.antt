-- Whatever the parts in which the input comes, what is printed is the definition's output.
-- Assumes nothing.
use Prim.Native.Nat.{ℕ}
use mathlib.Core.Path.{◌≡◌, sym, ◌∙◌, ap}
use mathlib.Core.Bool.{Bool, false}
use mathlib.Core.List.{List, ◌++◌, append-nil, append_assoc}
use lib.ListN.{drop}
use Rattle.lines.specs.Output.{lines_from, output}
use Rattle.lines.specs.Parts.{Later}
use Rattle.lines.specs.Session.{Masks, done, full, more, Session, refused, opened, unopened}

-- where more may come, anything may
anything : (ended : Bool) (later : List ℕ) → ended ≡ false → Later ended later
anything ended later e t = absurd (rw e at t)

-- the masks
pub masks_print : {bs : List ℕ} {n : ℕ} {held later text : List ℕ} → Masks bs n held later text → text ≡ lines_from bs n (held ++ later)
masks_print (done ended n held later new r a e l) = sym (a.lines later l ∙ rw (e, append-nil))
masks_print (full ended n held later new rest r a e l m) =
    sym (a.lines later l ∙ rw (e, ← masks_print m))
masks_print (more ended n held read later new rest r a e m) =
    sym
    (a.lines (read ++ later) (anything ended (read ++ later) (rw e at a.why).0)
    ∙ rw (e, ← append_assoc (drop r.taken held) read later, ← masks_print m))

-- a whole run
pub session_prints : {held later text : List ℕ} → Session held later text → text ≡ output (held ++ later)
session_prints (refused ended held later r o l) = sym (o later l)
session_prints (opened ended held later text k o m) = masks_print m ∙ sym (o.2 later)
session_prints (unopened ended held read later text o s) = session_prints s ∙ ap output (append_assoc held read later)
