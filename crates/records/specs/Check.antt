-- What the checks of books and masks share (01, "The four operations and when they turn back").
use Rattle.std.specs.Prelude.{ℕ, Bool, false, not, ◌||◌, Option, List, [], ◌∷◌, length, ◌==◌, nat_lt}
use Rattle.model.specs.declared.Refusal.{Refusal}
use Rattle.model.specs.declared.Refusal.TheVariants.{Unframed, Kind, Head}
use Rattle.model.specs.Refusal.{accepted, refuse}
use Rattle.records.specs.Bytes.{number_at}

-- some element passes the test
unfoldable pub some : {A : Type 0} → (A → Bool) → List A → Bool
some p [] = false
some p (x ∷ xs) = p x || some p xs

-- the length field: 2 bytes
abbrev pub length_field : List ℕ → ℕ
length_field bs = number_at 2 bs 0

-- the kind: 2 bytes
abbrev pub kind : List ℕ → ℕ
kind bs = number_at 2 bs 2

-- check 1: fewer than 4 bytes, or a length field that isn't the number of bytes lent
unfoldable pub unframed : List ℕ → Bool
unframed bs = nat_lt (length bs) 4 || not (length_field bs == length bs)

-- checks 1 to 3 of a record of kind k, whose head has so many bytes
unfoldable pub frame_refusal : ℕ → ℕ → List ℕ → Option Refusal
frame_refusal k head bs =
    refuse (unframed bs) Unframed
    (refuse (not (kind bs == k)) Kind
    (refuse (nat_lt (length bs) head) Head
    accepted))
