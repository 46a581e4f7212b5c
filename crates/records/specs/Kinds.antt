-- The kinds of records (01, "Records").
use Rattle.std.specs.Prelude.{ℕ}
use Rattle.records.specs.declared.frame.Kind.{Kind}
use Rattle.records.specs.declared.frame.Kind.TheVariants.{Book, Mask}

-- their numbers
abbrev pub kind_number : Kind → ℕ
kind_number Book = 1
kind_number Mask = 2

-- how many bytes their heads have
abbrev pub head_size : Kind → ℕ
head_size Book = 15
head_size Mask = 6
