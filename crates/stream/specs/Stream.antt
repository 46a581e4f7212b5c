-- What stands next in a stream of records (01, "The line program").
use Rattle.std.specs.Prelude.{ℕ, cond, List, ltb, eqb, length}
use Rattle.records.specs.Check.{length_field}
use Rattle.stream.specs.declared.Next.{Next}
use Rattle.stream.specs.declared.Next.TheVariants.{Whole, Short, Cut, End}

-- nothing is left; or a record is cut off, its length field or what this says; or the field is under 4; or the record is whole
unfoldable pub next : List ℕ → Next
next bs =
    cond (eqb (length bs) 0) End
    (cond (ltb (length bs) 2) Cut
    (cond (ltb (length_field bs) 4) Short
    (cond (ltb (length bs) (length_field bs)) Cut
    (Whole (length_field bs)))))

-- what more bytes can change: a record that is cut off, or nothing
abbrev pub Unsettled : Next → Type 0
Unsettled (Whole k) = ⊥
Unsettled Short = ⊥
Unsettled Cut = Unit {0}
Unsettled End = Unit {0}
