-- Tidy (01, "The four operations"): its checks, its answer, its bytes, and what they mean.
use Rattle.std.specs.Prelude.{ℕ, ◌≡◌, ◌↔◌, Option, None, Result, Ok, Err, List, length, take}
use Rattle.model.specs.declared.Refusal.{Refusal}
use Rattle.model.specs.Refusal.{number as refusal_number_of, accepted, and_then, unless}
use Rattle.model.specs.DashedString.{Matches}
use Rattle.model.specs.NormalForm.{normal, Reduced}
use Rattle.records.specs.Mask.{mask_of, mask_refusal}
use Rattle.records.specs.Written.{mask_bytes}
use Rattle.operations.specs.Buffer.{unless_refused, room_refusal}

-- the record that tidy writes: the normal form
unfoldable pub tidy_record : List ℕ → List ℕ
tidy_record ms = mask_bytes (normal (mask_of ms))

-- tidy's checks: the mask checks, then 10, an answer buffer of so many bytes is shorter than the answer
unfoldable pub tidy_refusal : List ℕ → ℕ → Option Refusal
tidy_refusal ms room = and_then (mask_refusal ms) (room_refusal (tidy_record ms) room)

-- tidy's answer: the bytes written, or the refusal
unfoldable pub tidied : List ℕ → ℕ → Result ℕ Refusal
tidied ms room = unless (tidy_refusal ms room) (length (tidy_record ms))

-- the answer buffer behind tidy
unfoldable pub tidy_buffer : List ℕ → List ℕ → List ℕ
tidy_buffer ms old = unless_refused (tidy_refusal ms (length old)) (tidy_record ms) old

-- the numbers that a host asks for: the refusal, 0 for none, and the bytes written
pub record TidyNumbers : Type 0 where
  pub refusal : ℕ
  pub bytes : ℕ

-- 01's numbers of each answer
abbrev pub tidy_numbers : Result ℕ Refusal → TidyNumbers
tidy_numbers (Ok n) = record { refusal = 0; bytes = n }
tidy_numbers (Err r) = record { refusal = refusal_number_of r; bytes = 0 }

-- the meaning of a record that tidy wrote: it passes the mask checks, it is reduced, and it spells exactly what the mask spelled
pub record Rewrites (ms written : List ℕ) : Type 0 where
  pub accepted : mask_refusal written ≡ None
  pub reduced : Reduced (mask_of written)
  pub spells : (w : List ℕ) → Matches (mask_of written) w ↔ Matches (mask_of ms) w

-- what tidy promises of its answer, of each byte of the buffer, and, where nothing is refused, of the record that now stands there
pub record Tidies (ms old new : List ℕ) (a : Result ℕ Refusal) : Type 0 where
  pub answer : a ≡ tidied ms (length old)
  pub buffer : new ≡ tidy_buffer ms old
  pub meaning : tidy_refusal ms (length old) ≡ accepted → Rewrites ms (take (tidy_numbers a).bytes new)
