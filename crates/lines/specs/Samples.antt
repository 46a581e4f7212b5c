-- What the line program prints for a few inputs: 01's sample, and each way to end.
use Rattle.std.specs.Prelude.{ℕ, ◌≡◌, List, [], ◌∷◌, ◌++◌, take}
use Prim.Native.String.{String}
use Rattle.model.specs.Text.{ascii}
use Rattle.model.specs.DashedString.{block}
use Rattle.records.specs.Written.{mask_bytes}
use Rattle.operations.specs.Samples.{A, B, C, up_to_two}
use Rattle.lines.specs.Output.{lines_from, output}

-- an input, and what is printed for it; a book, masks and the first one's number, and their lines
pub data Row : Type 0 where
  prints : List ℕ → String → Row
  goes_on : List ℕ → ℕ → List ℕ → String → Row

-- the definitions give what the row says
abbrev pub Holds : Row → Type 0
Holds (prints input text) = output input ≡ ascii text
Holds (goes_on bs n masks text) = lines_from bs n masks ≡ ascii text

-- each row holds
abbrev pub AllHold : List Row → Type 0
AllHold [] = Unit {0}
AllHold (r ∷ rs) = Holds r × AllHold rs

-- {0} 2–1, refused by check 7
abbrev pub crossed : List ℕ
crossed = mask_bytes (block 0b1 2 1 ∷ [])

unfoldable pub samples : List Row
samples =
    -- 01's sample: "Whole output: 1 some 1 1 2"
    prints (A ++ up_to_two) "1 some 1 1 2\n"
    -- empty input; one byte; a book cut off; a length field under 4; a refused book; a book alone
    ∷ prints [] "book refused 1\n"
    ∷ prints (0x18 ∷ []) "book refused 1\n"
    ∷ prints (take 23 A) "book refused 1\n"
    ∷ prints (3 ∷ 0 ∷ 1 ∷ 0 ∷ A) "book refused 1\n"
    ∷ prints (up_to_two ++ A) "book refused 2\n"
    ∷ prints A ""
    -- a mask cut off at its length field and behind it; a length field under 4, and a mask that is not read
    ∷ prints (A ++ up_to_two ++ 0x12 ∷ []) "1 some 1 1 2\n2 refused 1 0 0\n"
    ∷ prints (A ++ take 17 up_to_two) "1 refused 1 0 0\n"
    ∷ prints (A ++ 3 ∷ 0 ∷ 2 ∷ 0 ∷ up_to_two) "1 refused 1 0 0\n"
    -- a refused mask is passed over; each verdict
    ∷ prints (B ++ crossed ++ up_to_two ++ mask_bytes (block 0b010 1 1 ∷ block 0b101 1 1 ∷ []) ++ mask_bytes []) "1 refused 7 0 0\n2 some 1 2 2\n3 one 2 2 2\n4 none 0 0 0\n"
    ∷ prints (C ++ mask_bytes (block 0b1 0 1024 ∷ [])) "1 all 1 0 1024\n"
    -- after mask 4,294,967,295 it stops reading
    ∷ goes_on C 4294967294 (mask_bytes [] ++ mask_bytes [] ++ mask_bytes []) "4294967294 all 0 0 0\n4294967295 all 0 0 0\n"
    ∷ []
