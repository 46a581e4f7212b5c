-- Narrow (01, "The four operations"): its checks, its answer, its bytes, and what they mean.
use Rattle.std.specs.Prelude.{ℕ, ◌≡◌, Option, Result, Ok, Err, List, [], length, take}
use Rattle.model.specs.declared.Block.{Block}
use Rattle.model.specs.declared.Refusal.{Refusal}
use Rattle.model.specs.declared.Verdict.{Verdict}
use Rattle.model.specs.declared.Verdict.TheVariants.{None, All, One, Some}
use Rattle.model.specs.Automaton.{Dfa}
use Rattle.model.specs.NormalForm.{Reduced}
use Rattle.model.specs.Refusal.{number as refusal_number_of, accepted, and_then, unless}
use Rattle.model.specs.Verdict.{number, narrowed_mask, verdict}
use Rattle.model.specs.Place.{place}
use Rattle.model.specs.Demand3.{Demand3}
use Rattle.records.specs.Book.{book_of}
use Rattle.records.specs.Mask.{mask_of}
use Rattle.records.specs.Written.{mask_bytes}
use Rattle.operations.specs.declared.Narrowed.{Narrowed}
use Rattle.operations.specs.Pair.{Given, given_refusal, pair_refusal}
use Rattle.operations.specs.Buffer.{unless_refused, room_refusal}

-- for none nothing is written, else all of it
abbrev pub written : {A : Type 0} → Verdict → List A → List A
written None xs = []
written All xs = xs
written One xs = xs
written Some xs = xs

-- what narrow writes: the narrowed mask, or nothing
unfoldable pub narrow_record : Given → List ℕ
narrow_record g = let b = book_of g.book in written (verdict b g.blocks) (mask_bytes (narrowed_mask b g.blocks))

-- narrow's checks: those of a book and a mask, then 10, an answer buffer of so many bytes is shorter than the answer
unfoldable pub narrow_refusal : Given → ℕ → Option Refusal
narrow_refusal g room = and_then (given_refusal g) (room_refusal (narrow_record g) room)

-- narrow's answer: the verdict and the bytes written, or the refusal
unfoldable pub narrowed : Given → ℕ → Result Narrowed Refusal
narrowed g room =
    unless (narrow_refusal g room) (record { verdict = verdict (book_of g.book) g.blocks; bytes = length (narrow_record g) })

-- the answer buffer behind narrow
unfoldable pub narrow_buffer : Given → List ℕ → List ℕ
narrow_buffer g old = unless_refused (narrow_refusal g (length old)) (narrow_record g) old

-- the numbers that a host asks for: the refusal, 0 for none; the verdict; the bytes written
pub record NarrowNumbers : Type 0 where
  pub refusal : ℕ
  pub verdict : ℕ
  pub bytes : ℕ

-- 01's numbers of each answer
abbrev pub narrow_numbers : Result Narrowed Refusal → NarrowNumbers
narrow_numbers (Ok n) = record { refusal = 0; verdict = number n.verdict; bytes = n.bytes }
narrow_numbers (Err r) = record { refusal = refusal_number_of r; verdict = 0; bytes = 0 }

-- what narrow promises of its answer and of each byte of the buffer, and what they mean
pub record Narrows (g : Given) (old new : List ℕ) (a : Result Narrowed Refusal) : Type 0 where
  pub answer : a ≡ narrowed g (length old)
  pub buffer : new ≡ narrow_buffer g old
  -- demand 3, of the verdict returned and of the mask that the bytes written are, read back
  pub meaning : (n : Narrowed) → a ≡ Ok n
      → Demand3 (book_of g.book) g.blocks n.verdict (mask_of (take n.bytes new)) (place (book_of g.book) g.blocks)
  -- the bytes written are accepted again with the same book, and are in normal form
  pub again : (n : Narrowed) → a ≡ Ok n → ¬ (n.verdict ≡ None)
      → (pair_refusal g.book (take n.bytes new) ≡ accepted) × Reduced (mask_of (take n.bytes new))

-- what narrow promises of this automaton and these blocks, however they are given, where no check refuses what is given
abbrev pub NarrowsGiven : Dfa → List Block → List ℕ → List ℕ → Result Narrowed Refusal → Type 0
NarrowsGiven b xs old new a = (g : Given) → given_refusal g ≡ accepted → b ≡ book_of g.book → xs ≡ g.blocks → Narrows g old new a

-- one step of narrow: a verdict is answered, with what there is to write put into the buffer, or 10
pub record Answers (v : Verdict) (bytes old new : List ℕ) (a : Result Narrowed Refusal) : Type 0 where
  pub answer : a ≡ unless (room_refusal bytes (length old)) (record { verdict = v; bytes = length bytes })
  pub buffer : new ≡ unless_refused (room_refusal bytes (length old)) bytes old
