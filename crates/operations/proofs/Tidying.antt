-- What tidy promises, from what its steps give.
-- Assumes nothing.
use Prim.Native.Nat.{ℕ, ◌+◌, ◌-◌, ◌*◌, ◌≤◌, ◌<◌}
use Rattle.std.proofs.Common.{add-zero, Option, None, Some, Result, Ok, Err}
use Rattle.std.specs.Option.{option_map_or}
use mathlib.Core.Path.{◌≡◌, refl, ap, sym, ◌∙◌}
use mathlib.Core.List.{List, [], ◌∷◌, ◌++◌}
use native.Mathlib.Omega.{arith}
use borrow.Author.Tests.{le-ltb}
use lib.ListN.{length, take, drop, length-drop}
use lib.Seq.{get_or-drop, drop-drop}
use Rattle.model.specs.DashedString.{block, block_at}
use Rattle.model.specs.declared.Block.{Block}
use Rattle.model.specs.declared.Refusal.{Refusal}
use Rattle.model.specs.declared.Refusal.TheVariants as refusal
use Rattle.model.specs.Refusal.{number, accepted, unless}
use Rattle.model.specs.NormalForm.{normal}
use Rattle.model.specs.Size.{Fits}
use Rattle.model.proofs.NormalForm.{normal_spells, normal_reduced}
use Rattle.model.proofs.Room.{normal_shorter, normal_fits}
use Rattle.records.specs.declared.mask.Mask.{Mask}
use Rattle.records.specs.declared.totals.Totals.{Totals}
use Rattle.records.specs.Bytes.{Bytes, over}
use Rattle.records.specs.Mask.{mask_of, mask_refusal}
use Rattle.records.specs.Read.{blocks_of, ReadsMask}
use Rattle.records.specs.Written.{block_bytes, blocks_bytes, head_bytes}
use Rattle.records.proofs.Checks.{off}
use Rattle.records.proofs.Offsets.{blocks_counted}
use Rattle.records.proofs.Over.{take_over}
use Rattle.records.proofs.RoundTrip.{length_mask, reads_back}
use Rattle.records.proofs.WellFormed.{mask_record, record_fits_64}
use Rattle.operations.specs.Buffer.{room_refusal, Puts}
use Rattle.operations.proofs.Putting.{put_short, put_written}
use Rattle.records.proofs.Stores.{mask_stored, stored_more, stored_all}
use Rattle.std.proofs.lemmas.List.Edits.{sets}
use Rattle.operations.specs.Tidy.{tidy_record, tidy_refusal, tidied, tidy_buffer, tidy_numbers, Rewrites, Tidies}

-- an accepted mask fits a record
pub mask_fits : (ms : List ℕ) (m : Mask) (t : Totals) → Bytes ms → ReadsMask ms (Ok (m, t)) → Fits 64 (blocks_of m)
mask_fits ms m t bytes h = rw h.1 (record_fits_64 ms bytes h.0)

-- n blocks of the normal form, and a buffer
module _ (ms : List ℕ) (n : ℕ) (size : n ≡ length (normal (mask_of ms))) (old : List ℕ) where
  -- the buffer is too short for them
  pub tidied_short : length old < 6 + 12 * n → Puts (tidy_record ms) old old (Err refusal.Room)
  unfolding tidy_record
  tidied_short h = put_short (normal (mask_of ms)) old (rw size at h)

  -- it has room for them: the head is written, then the blocks behind it
  pub tidied_written : (head part : List ℕ) → 6 + 12 * n ≤ length old → head ≡ sets old 0 (head_bytes n)
      → part ≡ over (blocks_bytes (normal (mask_of ms))) (take (length head - 6) (drop 6 head))
      → Puts (tidy_record ms) old (take 6 head ++ (part ++ drop (length head - 6) (drop 6 head))) (Ok (6 + 12 * n))
  unfolding tidy_record
  tidied_written head part h e w =
      let fits = rw size at h in
      put_written (normal (mask_of ms)) old _ _ fits (rw size) (mask_stored (normal (mask_of ms)) old head part fits (rw size at e) w)

-- the mask is refused
pub tidy_refused : (ms old : List ℕ) (r : Refusal) → ReadsMask ms (Err r) → Tidies ms old old (Err r)
unfolding tidy_refusal tidied tidy_buffer
tidy_refused ms old r refused =
    record { answer = rw refused; buffer = rw refused; meaning = λ z. absurd (let z' = rw refused at z in cc) }

-- the record that tidy writes means what the mask means
rewrites : (ms : List ℕ) → Bytes ms → mask_refusal ms ≡ accepted → Rewrites ms (tidy_record ms)
unfolding tidy_record
rewrites ms bytes none =
    let xs = mask_of ms in
    let (accepted, back, _) = reads_back 64 (normal xs) (normal_fits 64 xs (record_fits_64 ms bytes none).room) in
    record {
      accepted = accepted;
      reduced = rw back (normal_reduced xs);
      spells = rw back (normal_spells xs (mask_record ms none).bounds);
    }

-- it is accepted, and tidy's record is put into the buffer
pub tidy_written : (ms old new : List ℕ) (a : Result ℕ Refusal) → Bytes ms → mask_refusal ms ≡ accepted → Puts (tidy_record ms) old new a → Tidies ms old new a
unfolding tidy_refusal tidied tidy_buffer
tidy_written ms old new a bytes none put =
    record {
      answer = rw none put.answer;
      buffer = rw none put.buffer;
      meaning =
          λ z.
          let passes : room_refusal (tidy_record ms) (length old) ≡ accepted = rw none at z in
          rw (put.answer, put.buffer, passes, take_over) (rewrites ms bytes none);
    }

-- the refusal number at the host is that of the checks
pub tidy_refusal_number : (ms : List ℕ) (room : ℕ) → (tidy_numbers (tidied ms room)).refusal ≡ option_map_or number (tidy_refusal ms room) 0
unfolding tidied
tidy_refusal_number ms room = go (tidy_refusal ms room)
  where
    go : (o : Option Refusal) → (tidy_numbers (unless o (length (tidy_record ms)))).refusal ≡ option_map_or number o 0
    go None = refl
    go (Some r) = refl

-- an answer buffer as long as the mask always suffices
pub tidy_suffices : (ms : List ℕ) (room : ℕ) → mask_refusal ms ≡ accepted → length ms ≤ room → tidy_refusal ms room ≡ accepted
unfolding tidy_record tidy_refusal
tidy_suffices ms room none h =
    let size = length_mask (normal (mask_of ms)) in
    let fits : length (tidy_record ms) ≤ room = omega (arith, size, normal_shorter (mask_of ms), blocks_counted ms, (mask_record ms none).size) in
    rw none (off _ refusal.Room accepted (le-ltb room (length (tidy_record ms)) fits))

-- zs, of which the first n are stored from byte 0 on
module _ (zs : List Block) (old out : List ℕ) (n : ℕ) (stored : out ≡ sets old 0 (blocks_bytes (take n zs))) where
  -- and x, the first of the others, behind them
  pub joined_more : (x : Block) (rest : List Block) (next : List ℕ) → drop n zs ≡ x ∷ rest → next ≡ sets out (12 * n) (block_bytes x)
      → (next ≡ sets old 0 (blocks_bytes (take (n + 1) zs))) × (drop (n + 1) zs ≡ rest)
  joined_more x rest next is e =
      let within : n < length zs = omega (arith, ap length is, length-drop n zs) in
      let here : block_at zs n ≡ x = sym (rw add-zero at (get_or-drop n zs 0 (block 0 0 0))) ∙ ap (λ xs. block_at xs 0) is in
      (stored_more zs old out next n within stored (rw here e), sym (drop-drop 1 n zs) ∙ ap (drop 1) is)

  -- or there are no others
  pub joined_all : drop n zs ≡ [] → 12 * length zs ≤ length old → out ≡ over (blocks_bytes zs) old
  joined_all none fits = stored_all zs old out n fits (omega (arith, ap length none, length-drop n zs)) stored
