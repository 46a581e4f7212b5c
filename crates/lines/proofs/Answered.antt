-- The line of a mask, by what narrow promises of its answer in a buffer that suffices.
-- Assumes nothing.
use Prim.Native.Nat.{ℕ, ◌≤◌}
use mathlib.Core.Path.{◌≡◌, refl, sym, ap}
use mathlib.Core.Logic.{inl, inr}
use mathlib.Core.List.{List}
use lib.ListN.{length, take}
use Rattle.std.specs.Prelude.{Result, Ok, Err}
use Rattle.model.specs.declared.Block.{Block}
use Rattle.model.specs.declared.Refusal.{Refusal}
use Rattle.model.specs.declared.Verdict.{Verdict}
use Rattle.model.specs.declared.Verdict.TheVariants.{None, All, One, Some}
use Rattle.model.specs.Size.{Fits}
use Rattle.model.specs.Verdict.{narrowed_mask}
use Rattle.model.proofs.Room.{mask_fits}
use Rattle.records.specs.Bytes.{Bytes, number_at}
use Rattle.records.specs.Book.{book_head, book_of}
use Rattle.records.specs.Mask.{mask_of, blocks_from}
use Rattle.records.specs.Written.{mask_bytes}
use Rattle.records.proofs.RoundTrip.{reads_back}
use Rattle.records.proofs.WellFormed.{mask_record}
use Rattle.operations.specs.declared.Narrowed.{Narrowed}
use Rattle.operations.specs.Pair.{from_record}
use Rattle.operations.specs.Narrow.{written, Narrows}
use Rattle.operations.proofs.Pairs.{pair_room}
use Rattle.operations.proofs.Told.{told_verdict, told_refusal}
use Rattle.lines.specs.Line.{refused_line, verdict_line, mask_line}
use Rattle.lines.specs.Sums.{Recorded}

-- a mask as a record
record_mask : (m : ℕ) (ys : List Block) → Fits m ys → Recorded (mask_bytes ys) × (mask_of (mask_bytes ys) ≡ ys)
record_mask m ys fits = let (passed, same, _) = reads_back m ys fits in (inr (mask_record (mask_bytes ys) passed), same)

-- what is written for a verdict, as a record and as blocks
record_of : (m : ℕ) (v : Verdict) (ys : List Block) → Fits m ys
    → Recorded (written v (mask_bytes ys)) × (mask_of (written v (mask_bytes ys)) ≡ written v ys)
unfolding mask_of blocks_from number_at
record_of m None ys fits = (inl refl, refl)
record_of m All ys fits = record_mask m ys fits
record_of m One ys fits = record_mask m ys fits
record_of m Some ys fits = record_mask m ys fits

-- ---- narrow's answer on a book and a mask

module _ (bs ms old new : List ℕ) (bytes : Bytes ms) (room : 12294 ≤ length old) (a : Result Narrowed Refusal) (narrows : Narrows (from_record bs ms) old new a) where
  -- a refusal
  pub refused_line_is : (n : ℕ) (r : Refusal) → a ≡ Err r → mask_line bs n ms ≡ refused_line n r
  unfolding mask_line
  refused_line_is n r e = rw (told_refusal bs ms old new a narrows bytes room r e) refl

  -- a verdict: the bytes written are the record
  pub answered_line_is : (n : ℕ) (got : Narrowed) → a ≡ Ok got
      → (got.bytes ≤ length new) × Recorded (take got.bytes new)
      × (mask_line bs n ms ≡ verdict_line n got.verdict (mask_of (take got.bytes new)))
  unfolding mask_line
  answered_line_is n got e =
      let (none, said, within, same) = told_verdict bs ms old new a narrows got e in
      let ys : List Block = narrowed_mask (book_of bs) (mask_of ms) in
      let fits = mask_fits (book_of bs) (book_head bs).letters (mask_of ms) (pair_room bs ms bytes none) in
      let (recorded, blocks) = record_of (book_head bs).letters got.verdict ys fits in
      (within, rw same recorded, rw (none, same, ← said) (ap (verdict_line n got.verdict) (sym blocks)))
