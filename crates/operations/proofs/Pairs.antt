-- What a book and a mask taken together are, by what each reader answers.
-- Assumes nothing.
use Rattle.std.proofs.Common.{◌≡◌, ℕ, false, Some, List, ap}
use Rattle.model.specs.declared.Refusal.{Refusal}
use Rattle.model.specs.declared.Refusal.TheVariants.{Foreign}
use Rattle.model.specs.Refusal.{accepted, refuse}
use Rattle.model.specs.Set.{some_from}
use Rattle.model.specs.Size.{Room, Fits}
use Rattle.records.specs.declared.totals.Totals.{Totals}
use Rattle.records.specs.declared.book.Book.{Book}
use Rattle.records.specs.Bytes.{Bytes}
use Rattle.records.specs.Book.{book_head, book_of, book_refusal}
use Rattle.records.specs.Mask.{mask_of, totals_of, mask_refusal, foreign}
use Rattle.records.specs.Read.{automaton}
use Rattle.records.specs.WellFormed.{BookRecord, MaskRecord}
use Rattle.records.proofs.Checks.{peel}
use Rattle.records.proofs.Taking.{used_foreign}
use Rattle.records.proofs.WellFormed.{book_record, mask_record, record_fits}
use Rattle.operations.specs.Pair.{Given, from_record, given_refusal, pair_refusal}
use Rattle.operations.proofs.Order.{passed_first}

module _ (g : Given) where
  -- the book is refused
  pub refused_book : (r : Refusal) → book_refusal g.book ≡ Some r → given_refusal g ≡ Some r
  unfolding given_refusal
  refused_book r e = rw e

  -- it is not, and the mask is refused
  pub refused_mask : book_refusal g.book ≡ accepted → (r : Refusal) → g.failing ≡ Some r → given_refusal g ≡ Some r
  unfolding given_refusal
  refused_mask none r e = rw (none, e)

  -- neither is: check 9 decides, by the totals of the blocks
  pub letters_decide : book_refusal g.book ≡ accepted → g.failing ≡ accepted → (b : Book) → automaton b ≡ book_of g.book
      → (t : Totals) → t ≡ totals_of g.blocks → given_refusal g ≡ refuse (some_from t.used b.table.letters) Foreign accepted
  unfolding given_refusal
  letters_decide none passed b is t totals = rw (none, passed, ap (λ d. d.table.letters) is, totals, used_foreign)

  -- no check of either refuses them
  pub given_checks : given_refusal g ≡ accepted
      → (book_refusal g.book ≡ accepted) × (g.failing ≡ accepted) × (foreign (book_head g.book).letters g.blocks ≡ false)
  unfolding given_refusal
  given_checks h =
      let (book, h) = passed_first (book_refusal g.book) _ h in
      let (mask, h) = passed_first g.failing _ h in
      (book, mask, (peel _ _ _ h).0)

-- a mask that is not refused by its own checks, nor by check 9 for m letters, fits a record with these
pub read_fits : (ms : List ℕ) (m : ℕ) → Bytes ms → mask_refusal ms ≡ accepted → (t : Totals) → t ≡ totals_of (mask_of ms)
    → refuse (some_from t.used m) Foreign accepted ≡ accepted → Fits m (mask_of ms)
read_fits ms m bytes none t totals own = record_fits m ms bytes none (rw (totals, used_foreign) at (peel _ _ _ own).0)

-- both are well-formed records
pub pair_records : (bs ms : List ℕ) → pair_refusal bs ms ≡ accepted → BookRecord bs × MaskRecord ms
pair_records bs ms h = let (book, mask, _) = given_checks (from_record bs ms) h in (book_record bs book, mask_record ms mask)

-- the mask fits a record, with the letters of the book
pub pair_fits : (bs ms : List ℕ) → Bytes ms → pair_refusal bs ms ≡ accepted → Fits (book_head bs).letters (mask_of ms)
pair_fits bs ms bytes h =
    let (_, mask, letters) = given_checks (from_record bs ms) h in
    record_fits (book_head bs).letters ms bytes mask letters

-- and so it has room
pub pair_room : (bs ms : List ℕ) → Bytes ms → pair_refusal bs ms ≡ accepted → Room (book_head bs).letters (mask_of ms)
pair_room bs ms bytes h = (pair_fits bs ms bytes h).room
