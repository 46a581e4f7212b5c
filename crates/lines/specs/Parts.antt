-- What a part of the input settles of what the line program prints.
use Rattle.std.specs.Prelude.{ℕ, ◌+◌, ◌≤◌, ◌<◌, ◌≡◌, Bool, false, List, [], ◌++◌, T, length, take, drop, Option, None, Some, Result, Ok, Err}
use Rattle.model.specs.declared.Refusal.{Refusal}
use Rattle.stream.specs.declared.Next.{Next}
use Rattle.stream.specs.Stream.{next, Unsettled}
use Rattle.lines.specs.declared.Pause.{Pause}
use Rattle.lines.specs.declared.Pause.TheVariants.{Full, More, Done}
use Rattle.lines.specs.declared.Progress.{Progress}
use Rattle.lines.specs.declared.masks.Step.{Step}
use Rattle.lines.specs.declared.masks.Step.TheVariants.{Passed, Last}
use Rattle.lines.specs.Line.{book_line}
use Rattle.lines.specs.Output.{lines_from, output}

-- what is still to be printed behind a pause
abbrev pub remaining : Pause → List ℕ → List ℕ
remaining Full lines = lines
remaining More lines = lines
remaining Done lines = []

-- what may come behind a part of the input: nothing, where the input has ended
abbrev pub Later : Bool → List ℕ → Type 0
Later ended rest = T ended → rest ≡ []

-- more is wanted: more may come, and no whole record stands next; less than the longest record is left then
abbrev pub Wants : Bool → List ℕ → Type 0
Wants ended rest = (ended ≡ false) × Unsettled (next rest) × (length rest < 65535)

-- what stands next, which nothing that comes later changes, or more is wanted
abbrev pub Settles : List ℕ → Bool → Option Next → Type 0
Settles input ended (Some x) = (x ≡ next input) × (Unsettled x → T ended)
Settles input ended None = Wants ended input

-- why the lines pause: the buffer has no room for another line, or more is wanted, or nothing more is to be printed
abbrev pub Because : Pause → ℕ → ℕ → Bool → List ℕ → Type 0
Because Full size room ended rest = room < size + 92
Because More size room ended rest = Wants ended rest
Because Done size room ended rest = Unit {0}

-- the lines of a part of the input, from mask n on, as text in a buffer
pub record Advances (bs input : List ℕ) (ended : Bool) (n : ℕ) (new : List ℕ) (r : Progress) : Type 0 where
  -- whatever comes later, the text is what is printed first, and what remains is printed for the bytes not taken and what comes later
  pub lines : (later : List ℕ) → Later ended later
      → lines_from bs n (input ++ later) ≡ take r.size new ++ remaining r.pause (lines_from bs r.number (drop r.taken input ++ later))
  pub taken : r.taken ≤ length input
  pub size : r.size ≤ length new
  pub why : Because r.pause r.size (length new) ended (drop r.taken input)

-- what one mask adds to the text, by its line; or more is wanted
abbrev pub Steps : List ℕ → List ℕ → Bool → ℕ → Option Step → Type 0
Steps bs rest ended n (Some (Passed k text)) =
    (k ≤ length rest) × ((later : List ℕ) → lines_from bs n (rest ++ later) ≡ text ++ lines_from bs (n + 1) (drop k rest ++ later))
Steps bs rest ended n (Some (Last text)) = (later : List ℕ) → Later ended later → lines_from bs n (rest ++ later) ≡ text
Steps bs rest ended n None = Wants ended rest

-- what an input begins with: an accepted book of so many bytes, or more is wanted; or a refused book, whose line is all
abbrev pub Opens : List ℕ → Bool → Result (Option ℕ) Refusal → Type 0
Opens input ended (Ok (Some k)) =
    (k ≤ length input) × (k ≤ 4047)
    × ((later : List ℕ) → output (input ++ later) ≡ lines_from (take k input) 1 (drop k input ++ later))
Opens input ended (Ok None) = Wants ended input
Opens input ended (Err r) = (later : List ℕ) → Later ended later → output (input ++ later) ≡ book_line r
