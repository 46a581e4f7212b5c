-- What the line program prints for all that it reads (01, "The line program").
use Rattle.std.specs.Prelude.{ℕ, zero, suc, ◌-◌, Option, None, Some, List, [], ◌++◌, take, drop}
use Rattle.model.specs.declared.Refusal.{Refusal}
use Rattle.model.specs.declared.Refusal.TheVariants.{Unframed}
use Rattle.records.specs.Book.{book_refusal}
use Rattle.stream.specs.declared.Next.{Next}
use Rattle.stream.specs.declared.Next.TheVariants.{Whole, Short, Cut, End}
use Rattle.stream.specs.Stream.{next}
use Rattle.lines.specs.Line.{refused_line, mask_line, book_line}

-- by what stands next: a whole mask; one cut off, or with a length field under 4; the end of input
abbrev pub by_next : Next → (ℕ → List ℕ) → List ℕ → List ℕ
by_next (Whole k) whole broken = whole k
by_next Short whole broken = broken
by_next Cut whole broken = broken
by_next End whole broken = []

-- the lines of at most so many masks, from number n on; a broken one prints refusal 1 and ends it
unfoldable pub mask_lines : List ℕ → ℕ → ℕ → List ℕ → List ℕ
mask_lines bs zero n s = []
mask_lines bs (suc left) n s =
    by_next (next s) (λ k. mask_line bs n (take k s) ++ mask_lines bs left (suc n) (drop k s)) (refused_line n Unframed)

-- the lines from mask n on: after 4,294,967,295 masks it stops reading
unfoldable pub lines_from : List ℕ → ℕ → List ℕ → List ℕ
lines_from bs n s = mask_lines bs (4294967296 - n) n s

-- a refused book prints its line and ends it
abbrev pub book_line_or : Option Refusal → List ℕ → List ℕ
book_line_or None lines = lines
book_line_or (Some r) lines = book_line r

-- the book, then the masks from number 1 on; without a whole book, refusal 1
abbrev pub opened : Next → List ℕ → List ℕ
opened (Whole k) s = book_line_or (book_refusal (take k s)) (lines_from (take k s) 1 (drop k s))
opened Short s = book_line Unframed
opened Cut s = book_line Unframed
opened End s = book_line Unframed

-- what the line program prints for what it reads
unfoldable pub output : List ℕ → List ℕ
output s = opened (next s) s
