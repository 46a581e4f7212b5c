-- A book and a mask taken together: the checks that narrow, place and try begin with (01, "The four operations").
use Rattle.std.specs.Prelude.{ℕ, ◌≡◌, Option, Some, Result, Ok, Err, List, length, nat_lt}
use Rattle.model.specs.declared.Block.{Block}
use Rattle.model.specs.declared.Refusal.{Refusal}
use Rattle.model.specs.declared.Refusal.TheVariants.{OutOfRange, Foreign}
use Rattle.model.specs.Refusal.{accepted, refuse, and_then}
use Rattle.records.specs.Book.{book_head, book_of, book_refusal}
use Rattle.records.specs.Mask.{mask_of, blocks_refusal, mask_refusal, foreign}
use Rattle.records.specs.Read.{automaton}
use Rattle.operations.specs.declared.pair.Pair.{Pair}

-- a book's bytes, and a mask: its blocks, and the first of its own checks that fails
pub record Given : Type 0 where
  pub book : List ℕ
  pub blocks : List Block
  pub failing : Option Refusal

-- the mask is lent as a record
abbrev pub from_record : List ℕ → List ℕ → Given
from_record bs ms = record { book = bs; blocks = mask_of ms; failing = mask_refusal ms }

-- the checks of a list of blocks: 4, then 7 and 8
unfoldable pub list_refusal : List Block → Option Refusal
list_refusal xs = refuse (nat_lt 1024 (length xs)) OutOfRange (blocks_refusal xs)

-- the mask is lent as a list of blocks
abbrev pub from_list : List ℕ → List Block → Given
from_list bs xs = record { book = bs; blocks = xs; failing = list_refusal xs }

-- book checks, mask checks, 9
unfoldable pub given_refusal : Given → Option Refusal
given_refusal g =
    and_then (book_refusal g.book)
    (and_then g.failing
    (refuse (foreign (book_head g.book).letters g.blocks) Foreign
    accepted))

-- of two records
abbrev pub pair_refusal : List ℕ → List ℕ → Option Refusal
pair_refusal bs ms = given_refusal (from_record bs ms)

-- what reading both answers: that automaton with a mask of these bytes, or the refusal
abbrev pub ReadsPair : List ℕ → List ℕ → Result Pair Refusal → Type 0
ReadsPair bs ms (Ok p) = (pair_refusal bs ms ≡ accepted) × (automaton p.book ≡ book_of bs) × (p.mask.bytes.now ≡ ms)
ReadsPair bs ms (Err r) = pair_refusal bs ms ≡ Some r
