-- What stands next in a few streams.
use Rattle.std.specs.Prelude.{ℕ, ◌≡◌, List, [], ◌∷◌}
use Rattle.stream.specs.declared.Next.{Next}
use Rattle.stream.specs.declared.Next.TheVariants.{Whole, Short, Cut, End}
use Rattle.stream.specs.Stream.{next}

-- a stream and what stands next in it
pub record Row : Type 0 where
  pub bytes : List ℕ
  pub stands : Next

-- each row holds
abbrev pub AllHold : List Row → Type 0
AllHold [] = Unit {0}
AllHold (r ∷ rs) = (next r.bytes ≡ r.stands) × AllHold rs

abbrev row : List ℕ → Next → Row
row bytes stands = record { bytes = bytes; stands = stands }

unfoldable pub samples : List Row
samples =
    -- nothing; one byte, whatever it is; a length field of 3 and of 4
    row [] End
    ∷ row (4 ∷ []) Cut
    ∷ row (3 ∷ 0 ∷ 2 ∷ 0 ∷ []) Short
    ∷ row (4 ∷ 0 ∷ 2 ∷ 0 ∷ []) (Whole 4)
    -- a byte less than the field says; bytes behind the record; the longest record
    ∷ row (5 ∷ 0 ∷ 2 ∷ 0 ∷ []) Cut
    ∷ row (4 ∷ 0 ∷ 2 ∷ 0 ∷ 6 ∷ 0 ∷ []) (Whole 4)
    ∷ row (0xFF ∷ 0xFF ∷ 2 ∷ 0 ∷ []) Cut
    ∷ []
