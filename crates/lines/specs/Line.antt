-- The line of a mask, and of a refused book (01, "The line program").
use Rattle.std.specs.Prelude.{ℕ, Option, None, Some, List, ◌++◌, length}
use Rattle.model.specs.declared.Block.{Block}
use Rattle.model.specs.declared.Verdict.{Verdict}
use Rattle.model.specs.declared.Refusal.{Refusal}
use Rattle.model.specs.Refusal as refusal
use Rattle.model.specs.Text.{ascii}
use Rattle.model.specs.Verdict.{word, verdict, narrowed_mask}
use Rattle.model.specs.Size.{lower_sum, uppers}
use Rattle.records.specs.Book.{book_of}
use Rattle.records.specs.Mask.{mask_of}
use Rattle.operations.specs.Pair.{pair_refusal}
use Rattle.operations.specs.Narrow.{written}
use Rattle.lines.specs.Text.{decimal}

-- a blank and a number
abbrev pub spaced : ℕ → List ℕ
spaced n = ascii " " ++ decimal n

-- three numbers, and the line's end
abbrev pub numbers : ℕ → ℕ → ℕ → List ℕ
numbers a b c = spaced a ++ spaced b ++ spaced c ++ ascii "\n"

-- a line: the mask's number, a word and three numbers, by single blanks
abbrev pub line : ℕ → List ℕ → ℕ → ℕ → ℕ → List ℕ
line n w a b c = decimal n ++ (ascii " " ++ w) ++ numbers a b c

-- a refused mask: its number, `refused`, the number of the refusal, `0 0`
abbrev pub refused_line : ℕ → Refusal → List ℕ
refused_line n r = line n (ascii "refused") (refusal.number r) 0 0

-- the verdict, the blocks written, the sum of their lower and the sum of their upper bounds
abbrev pub verdict_line : ℕ → Verdict → List Block → List ℕ
verdict_line n v xs = line n (word v) (length xs) (lower_sum xs) (uppers xs)

-- the line by the refusal, if any
abbrev pub line_or : ℕ → List ℕ → Option Refusal → List ℕ
line_or n answered None = answered
line_or n answered (Some r) = refused_line n r

-- the line of mask n: its refusal, or its verdict and the blocks written
unfoldable pub mask_line : List ℕ → ℕ → List ℕ → List ℕ
mask_line bs n ms =
    let b = book_of bs in let xs = mask_of ms in let v = verdict b xs in
    line_or n (verdict_line n v (written v (narrowed_mask b xs))) (pair_refusal bs ms)

-- a refused book: `book refused` and the number
abbrev pub book_line : Refusal → List ℕ
book_line r = ascii "book refused" ++ spaced (refusal.number r) ++ ascii "\n"
