-- What narrow's answer tells, for who has only what narrow promises.
-- Assumes nothing.
use Prim.Native.Nat.{ℕ, ◌+◌, ◌*◌, ◌≤◌}
use Rattle.std.proofs.Common.{Option, None, Some, Result, Ok, Err}
use mathlib.Core.Path.{◌≡◌, refl, sym, ◌∙◌, ap}
use mathlib.Core.List.{List}
use native.Mathlib.Omega.{arith}
use lib.ListN.{length, take, length-take}
use Rattle.model.specs.declared.Refusal.{Refusal}
use Rattle.model.specs.Refusal.{accepted}
use Rattle.model.specs.Verdict.{verdict, narrowed_mask}
use Rattle.records.specs.Bytes.{Bytes, over}
use Rattle.records.specs.Book.{book_of}
use Rattle.records.specs.Mask.{mask_of}
use Rattle.records.specs.Written.{mask_bytes}
use Rattle.records.proofs.Answers.{unless_ok, unless_err}
use Rattle.records.proofs.Over.{take_over}
use Rattle.operations.specs.declared.Narrowed.{Narrowed}
use Rattle.operations.specs.Pair.{from_record, pair_refusal}
use Rattle.operations.specs.Narrow.{written, narrow_record, narrow_refusal, narrowed, narrow_buffer, Narrows}
use Rattle.operations.proofs.Order.{passed_first}
use Rattle.operations.proofs.NarrowPromise.{narrow_suffices}

module _ (bs ms old new : List ℕ) (a : Result Narrowed Refusal) (narrows : Narrows (from_record bs ms) old new a) where
  -- a verdict: it is that of the book and the mask, and the bytes written are what is written for it
  pub told_verdict : (n : Narrowed) → a ≡ Ok n
      → (pair_refusal bs ms ≡ accepted) × (n.verdict ≡ verdict (book_of bs) (mask_of ms)) × (n.bytes ≤ length new)
      × (take n.bytes new ≡ written n.verdict (mask_bytes (narrowed_mask (book_of bs) (mask_of ms))))
  unfolding narrowed narrow_buffer narrow_record narrow_refusal
  told_verdict n e =
      let (passed, same) = unless_ok (narrow_refusal (from_record bs ms) (length old)) _ n (sym narrows.answer ∙ e) in
      let is : new ≡ over (narrow_record (from_record bs ms)) old = rw passed at narrows.buffer in
      let front : take n.bytes new ≡ narrow_record (from_record bs ms) = rw (is, same) (take_over (narrow_record (from_record bs ms)) old) in (
        (passed_first (pair_refusal bs ms) _ passed).0,
        rw same,
        omega (arith, ap (λ (x : Narrowed). x.bytes) same, ap length front, length-take n.bytes new),
        rw (ap (λ (x : Narrowed). x.verdict) same) front,
      )

  -- a refusal, where the buffer always suffices: it is not 10, so the checks of the book and the mask gave it
  pub told_refusal : Bytes ms → 6 + 12 * 1024 ≤ length old → (r : Refusal) → a ≡ Err r → pair_refusal bs ms ≡ Some r
  unfolding narrowed narrow_refusal
  told_refusal bytes room r e = go (pair_refusal bs ms) refl
    where
      refused : narrow_refusal (from_record bs ms) (length old) ≡ Some r
      refused = unless_err (narrow_refusal (from_record bs ms) (length old)) _ r (sym narrows.answer ∙ e)

      go : (o : Option Refusal) → pair_refusal bs ms ≡ o → o ≡ Some r
      go None passed = sym (narrow_suffices bs ms (length old) bytes passed room) ∙ refused
      go (Some x) first = rw first at refused
