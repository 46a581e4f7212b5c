-- The book that an input begins with, whatever comes later.
-- Assumes nothing.
use Prim.Native.Nat.{ℕ, ◌≤◌}
use mathlib.Core.Path.{◌≡◌, ◌∙◌}
use mathlib.Core.Bool.{Bool}
use mathlib.Core.List.{List, [], ◌++◌, append-nil}
use native.Mathlib.Nat.{mul-le-mul}
use native.Mathlib.Omega.{arith}
use lib.ListN.{take, drop}
use lib.Seq.{take-append-le, drop-append-le, length-take-le}
use Rattle.std.specs.Result.{result_map_both}
use Rattle.std.specs.Prelude.{Result, Some, Ok, Err}
use Rattle.model.specs.declared.Refusal.{Refusal}
use Rattle.model.specs.declared.Refusal.TheVariants.{Unframed}
use Rattle.model.specs.Refusal.{accepted}
use Rattle.records.specs.declared.book.Book.{Book}
use Rattle.records.specs.Book.{book_head, book_refusal}
use Rattle.records.specs.Read.{ReadsBook}
use Rattle.records.proofs.WellFormed.{book_record}
use Rattle.stream.specs.declared.Next.TheVariants.{Whole, Short, Cut, End}
use Rattle.stream.specs.Stream.{next}
use Rattle.stream.proofs.Following.{whole_behind, short_behind}
use Rattle.lines.specs.Line.{book_line}
use Rattle.lines.specs.Output.{lines_from, book_line_or, output}
use Rattle.lines.specs.Parts.{Opens}
use Rattle.lines.proofs.Stepping.{whole_fits}

-- an accepted book has at most 15 + 63 × 64 bytes
pub book_few : (input : List ℕ) (k : ℕ) → Whole k ≡ next input → book_refusal (take k input) ≡ accepted → k ≤ 4047
book_few input k whole none =
    let it = book_record (take k input) none in
    let states : (book_head (take k input)).states ≤ 63 = omega (arith, it.sound.states) in
    omega (arith, it.size, length-take-le k input (whole_fits input k whole), mul-le-mul states it.sound.letters)

-- a refused book's line is all that is printed
pub taken_refused : (bs lines : List ℕ) (r : Refusal) → ReadsBook bs (Err r) → book_line_or (book_refusal bs) lines ≡ book_line r
taken_refused bs lines r e = rw e

module _ (input : List ℕ) where
  -- a whole record: by the checks of a book
  settled : (k : ℕ) → Whole k ≡ next input → (later : List ℕ)
      → output (input ++ later) ≡ book_line_or (book_refusal (take k input)) (lines_from (take k input) 1 (drop k input ++ later))
  unfolding output
  settled k whole later =
      let fits = whole_fits input k whole in
      rw (← whole_behind input later k whole, take-append-le k input later fits, drop-append-le k input later fits)

  -- a book, or a refused one
  module _ (k : ℕ) (whole : Whole k ≡ next input) (later : List ℕ) where
    pub opens_book : book_refusal (take k input) ≡ accepted → output (input ++ later) ≡ lines_from (take k input) 1 (drop k input ++ later)
    opens_book none = settled k whole later ∙ rw none

    pub opens_refused : (r : Refusal) → ReadsBook (take k input) (Err r) → output (input ++ later) ≡ book_line r
    opens_refused r e = settled k whole later ∙ taken_refused (take k input) _ r e

  -- so what reading it answers tells what the input begins with
  pub opens_whole : (ended : Bool) (k : ℕ) → Whole k ≡ next input → (got : Result Book Refusal) → ReadsBook (take k input) got
      → Opens input ended (result_map_both (λ _. Some k) (λ r. r) got)
  opens_whole ended k whole (Ok b) (none, _) = (whole_fits input k whole, book_few input k whole none, λ later. opens_book k whole later none)
  opens_whole ended k whole (Err r) e = λ later h. opens_refused k whole later r e

  -- no whole book: its line is refusal 1
  pub opens_short : Short ≡ next input → (later : List ℕ) → output (input ++ later) ≡ book_line Unframed
  unfolding output
  opens_short e later = rw (← short_behind input later e)

  module _ (later : List ℕ) (none : later ≡ []) where
    pub opens_cut : Cut ≡ next input → output (input ++ later) ≡ book_line Unframed
    unfolding output
    opens_cut e = rw (none, append-nil, ← e)

    pub opens_end : End ≡ next input → output (input ++ later) ≡ book_line Unframed
    unfolding output
    opens_end e = rw (none, append-nil, ← e)

-- by what stands first, what is printed
pub ruleset openings = (whole_fits, length-take-le, book_few, opens_book, opens_refused, opens_short, opens_cut, opens_end)
