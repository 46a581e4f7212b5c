-- The lent answer buffer behind an operation (01, "Records" and "The four operations").
use Rattle.std.specs.Prelude.{ℕ, ◌≡◌, Option, None, Some, Result, List, length, nat_lt}
use Rattle.model.specs.declared.Refusal.{Refusal}
use Rattle.model.specs.declared.Refusal.TheVariants.{Room}
use Rattle.model.specs.Refusal.{accepted, refuse, unless}
use Rattle.records.specs.Bytes.{over}

-- a record is written over its first bytes, and what lies behind keeps its contents; a refusal leaves every byte
abbrev pub unless_refused : Option Refusal → List ℕ → List ℕ → List ℕ
unless_refused None written old = over written old
unless_refused (Some r) written old = old

-- check 10: an answer buffer of so many bytes is shorter than what is to be written
abbrev pub room_refusal : List ℕ → ℕ → Option Refusal
room_refusal written room = refuse (nat_lt room (length written)) Room accepted

-- a record is written where the buffer has room, and its size returned; where the buffer is shorter (check 10) it keeps every byte
pub record Puts (written old new : List ℕ) (r : Result ℕ Refusal) : Type 0 where
  pub answer : r ≡ unless (room_refusal written (length old)) (length written)
  pub buffer : new ≡ unless_refused (room_refusal written (length old)) written old
