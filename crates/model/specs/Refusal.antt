-- Checks in order, the numbers of their refusals, and answers that may be one (01, "The four operations and when they turn back").
use Rattle.std.specs.Prelude.{ℕ, Bool, cond, Option, None, Some, Result, Ok, Err}
use Rattle.model.specs.declared.Refusal.{Refusal}
use Rattle.model.specs.declared.Refusal.TheVariants.{Unframed, Kind, Head, OutOfRange, Size, Unnamed, Crossed, Uppers, Foreign, Room, Missing, TooLong, Strange}

-- the numbers of the checks
abbrev pub number : Refusal → ℕ
number Unframed = 1
number Kind = 2
number Head = 3
number OutOfRange = 4
number Size = 5
number Unnamed = 6
number Crossed = 7
number Uppers = 8
number Foreign = 9
number Room = 10
number Missing = 11
number TooLong = 12
number Strange = 13

-- no check fails
abbrev pub accepted : Option Refusal
accepted = None

-- one check: its refusal where it fails, else what the next checks say
unfoldable pub refuse : Bool → Refusal → Option Refusal → Option Refusal
refuse fails refusal rest = cond fails (Some refusal) rest

-- the first checks decide; where they refuse nothing, the next ones do
abbrev pub and_then : Option Refusal → Option Refusal → Option Refusal
and_then None next = next
and_then (Some r) next = Some r

-- a value, or the refusal
abbrev pub unless : {A : Type 0} → Option Refusal → A → Result A Refusal
unless None x = Ok x
unless (Some r) x = Err r

-- the refusal number of an answer, 0 for none
abbrev pub refusal_number : {A : Type 0} → Result A Refusal → ℕ
refusal_number (Ok x) = 0
refusal_number (Err r) = number r
