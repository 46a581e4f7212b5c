-- Try (01, "The four operations"): its checks, its answer, and what it means.
use Rattle.std.specs.Prelude.{ℕ, ◌≡◌, ◌↔◌, Bool, true, false, Option, Result, Ok, Err, List, length, nat_lt}
use Rattle.model.specs.declared.Refusal.{Refusal}
use Rattle.model.specs.declared.Refusal.TheVariants.{TooLong, Strange}
use Rattle.model.specs.Refusal.{number as refusal_number_of, accepted, refuse, and_then, unless}
use Rattle.model.specs.DashedString.{Matches}
use Rattle.model.specs.Automaton.{Accepts}
use Rattle.model.specs.Membership.{spells, accepts}
use Rattle.records.specs.Book.{book_head, book_of}
use Rattle.records.specs.Mask.{mask_of}
use Rattle.membership.specs.Word.{strange}
use Rattle.operations.specs.declared.Tried.{Tried}
use Rattle.operations.specs.Pair.{pair_refusal}

-- try's checks: those of a book and a mask, then 12, a code over 1,024 letters, then 13, a letter m or above
unfoldable pub try_refusal : List ℕ → List ℕ → List ℕ → Option Refusal
try_refusal bs ms w =
    and_then (pair_refusal bs ms)
    (refuse (nat_lt 1024 (length w)) TooLong
    (refuse (strange (book_head bs).letters w) Strange
    accepted))

-- try's answer: the two yes or no, or the refusal
unfoldable pub tried : List ℕ → List ℕ → List ℕ → Result Tried Refusal
tried bs ms w = unless (try_refusal bs ms w) (record { mask = spells (mask_of ms) w; book = accepts (book_of bs) w })

-- the numbers that a host asks for: the refusal, 0 for none; whether the mask spells the code; whether the book accepts it
pub record TryNumbers : Type 0 where
  pub refusal : ℕ
  pub mask : ℕ
  pub book : ℕ

-- yes is 1, no is 0
abbrev pub yes : Bool → ℕ
yes true = 1
yes false = 0

-- 01's numbers of each answer
abbrev pub try_numbers : Result Tried Refusal → TryNumbers
try_numbers (Ok t) = record { refusal = 0; mask = yes t.mask; book = yes t.book }
try_numbers (Err r) = record { refusal = refusal_number_of r; mask = 0; book = 0 }

-- what try promises of its answer, and what it means (demand 2): where nothing is refused, the first is yes exactly when the
-- mask spells the code, and the second exactly when the book accepts it
pub record Tries (bs ms w : List ℕ) (a : Result Tried Refusal) : Type 0 where
  pub answer : a ≡ tried bs ms w
  pub mask : try_refusal bs ms w ≡ accepted → ((try_numbers a).mask ≡ 1) ↔ Matches (mask_of ms) w
  pub book : try_refusal bs ms w ≡ accepted → ((try_numbers a).book ≡ 1) ↔ Accepts (book_of bs) w
