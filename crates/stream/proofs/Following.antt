-- What each answer of next tells of the bytes, and that bytes behind a record do not change it.
-- Assumes nothing.
use Prim.Native.Nat.{ℕ, ◌≤◌, ◌<◌}
use mathlib.Core.Path.{◌≡◌}
use mathlib.Core.Logic.{◌⊎◌}
use mathlib.Core.List.{List, ◌++◌}
use native.Mathlib.Omega.{arith}
use lib.ListN.{length, length-append}
use Rattle.std.proofs.lemmas.Bool.Decides.{nat_tests}
use Rattle.std.proofs.lemmas.List.{get_or_append_left}
use Rattle.records.specs.Bytes.{number_at}
use Rattle.records.specs.Check.{length_field}
use Rattle.stream.specs.declared.Next.{Next}
use Rattle.stream.specs.declared.Next.TheVariants.{Whole, Short, Cut, End}
use Rattle.stream.specs.Stream.{next}

-- what an answer tells of the bytes
abbrev pub Tells : List ℕ → Next → Type 0
Tells bs (Whole k) = (2 ≤ length bs) × (k ≡ length_field bs) × (4 ≤ k) × (k ≤ length bs)
Tells bs Short = (2 ≤ length bs) × (length_field bs < 4)
Tells bs Cut = (length bs < 2) ⊎ (length bs < length_field bs)
Tells bs End = length bs ≡ 0

-- the length field stands in the first two bytes
field_behind : (bs rest : List ℕ) → 2 ≤ length bs → length_field (bs ++ rest) ≡ length_field bs
unfolding number_at
field_behind bs rest h = grind (arith, get_or_append_left)

module _ (bs : List ℕ) where
  pub tell : (x : Next) → x ≡ next bs → Tells bs x
  unfolding next
  tell x e = rw e (grind (arith, nat_tests))

  -- what comes later does not change which record is next, nor that its length field is too small
  module _ (rest : List ℕ) where
    pub whole_behind : (k : ℕ) → Whole k ≡ next bs → Whole k ≡ next (bs ++ rest)
    unfolding next
    whole_behind k e = grind (arith, nat_tests, length-append, field_behind)

    pub short_behind : Short ≡ next bs → Short ≡ next (bs ++ rest)
    unfolding next
    short_behind e = grind (arith, nat_tests, length-append, field_behind)
