-- Document 01's sample records, and records with two faults, of which the first check in order decides.
use Rattle.std.specs.Prelude.{◌≡◌, ℕ, Some, List, [], ◌∷◌, ◌++◌, replicate}
use Rattle.model.specs.declared.Block.{Block}
use Rattle.model.specs.declared.Refusal.{Refusal}
use Rattle.model.specs.declared.Refusal.TheVariants.{Unframed, Kind, Head, OutOfRange, Size, Unnamed, Crossed, Uppers}
use Rattle.model.specs.Refusal.{accepted}
use Rattle.model.specs.DashedString.{block}
use Rattle.model.specs.Automaton.{Dfa}
use Rattle.model.specs.Trials.{A}
use Rattle.records.specs.Book.{book_of, book_refusal}
use Rattle.records.specs.Mask.{mask_of, mask_refusal}
use Rattle.records.specs.Written.{mask_bytes}

-- bytes and the automaton that they are; bytes and the blocks that they are, both ways; bytes and what refuses them
pub data Row : Type 0 where
  book : List ℕ → Dfa → Row
  mask : List ℕ → List Block → Row
  no_book : List ℕ → Refusal → Row
  no_mask : List ℕ → Refusal → Row

-- the definitions give what the row says
abbrev pub Holds : Row → Type 0
Holds (book bs b) = (book_refusal bs ≡ accepted) × (book_of bs ≡ b)
Holds (mask bs xs) = (mask_refusal bs ≡ accepted) × (mask_of bs ≡ xs) × (mask_bytes xs ≡ bs)
Holds (no_book bs r) = book_refusal bs ≡ Some r
Holds (no_mask bs r) = mask_refusal bs ≡ Some r

-- each row holds
abbrev pub AllHold : List Row → Type 0
AllHold [] = Unit {0}
AllHold (r ∷ rs) = Holds r × AllHold rs

-- k bytes of 0
abbrev pub zeros : ℕ → List ℕ
zeros k = replicate k 0

-- 01's sample input, then pairs of faults
unfoldable pub samples : List Row
samples =
    book (0x18 ∷ 0 ∷ 1 ∷ 0 ∷ 3 ∷ 3 ∷ 0 ∷ 2 ∷ zeros 7 ++ 1 ∷ 0xFF ∷ 0xFF ∷ 0xFF ∷ 2 ∷ 0xFF ∷ 0xFF ∷ 0xFF ∷ 1 ∷ []) A
    ∷ mask (0x12 ∷ 0 ∷ 2 ∷ 0 ∷ 1 ∷ 0 ∷ 7 ∷ zeros 7 ++ 0 ∷ 0 ∷ 2 ∷ 0 ∷ []) (block 0b111 0 2 ∷ [])
    -- length field and kind; kind and under 15 bytes; under 15 bytes and n = 0; n = 0 and a byte too many
    ∷ no_book (5 ∷ 0 ∷ 2 ∷ 0 ∷ []) Unframed
    ∷ no_book (4 ∷ 0 ∷ 2 ∷ 0 ∷ []) Kind
    ∷ no_book (4 ∷ 0 ∷ 1 ∷ 0 ∷ []) Head
    ∷ no_book (16 ∷ 0 ∷ 1 ∷ 0 ∷ zeros 12) OutOfRange
    -- no move and the start; the start alone
    ∷ no_book (15 ∷ 0 ∷ 1 ∷ 0 ∷ 1 ∷ 1 ∷ 1 ∷ zeros 8) Size
    ∷ no_book (16 ∷ 0 ∷ 1 ∷ 0 ∷ 1 ∷ 1 ∷ 1 ∷ zeros 9) Unnamed
    -- length field and kind; kind and under 6 bytes; under 6 bytes; 1,025 blocks and no byte of them
    ∷ no_mask (5 ∷ 0 ∷ 1 ∷ 0 ∷ []) Unframed
    ∷ no_mask (4 ∷ 0 ∷ 1 ∷ 0 ∷ []) Kind
    ∷ no_mask (4 ∷ 0 ∷ 2 ∷ 0 ∷ []) Head
    ∷ no_mask (6 ∷ 0 ∷ 2 ∷ 0 ∷ 1 ∷ 4 ∷ []) OutOfRange
    -- a block too few; u = 1,025 and l above u in the last block; u = 1,025
    ∷ no_mask (18 ∷ 0 ∷ 2 ∷ 0 ∷ 2 ∷ 0 ∷ zeros 8 ++ 1 ∷ 0 ∷ 0 ∷ 0 ∷ []) Size
    ∷ no_mask (30 ∷ 0 ∷ 2 ∷ 0 ∷ 2 ∷ 0 ∷ zeros 10 ++ 1 ∷ 4 ∷ zeros 8 ++ 1 ∷ 0 ∷ 0 ∷ 0 ∷ []) Crossed
    ∷ no_mask (18 ∷ 0 ∷ 2 ∷ 0 ∷ 1 ∷ 0 ∷ zeros 10 ++ 1 ∷ 4 ∷ []) Uppers
    ∷ []
