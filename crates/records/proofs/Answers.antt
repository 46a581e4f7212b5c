-- What a reader's answer tells, for who takes it apart.
-- Assumes nothing.
use Rattle.std.proofs.Common.{◌≡◌, ℕ, Option, None, Some, Ok, Err, ◌+◌, ◌*◌, ◌≤◌, List, length, refl, arith}
use Rattle.model.specs.declared.Refusal.{Refusal}
use Rattle.model.specs.Refusal.{accepted, unless}
use Rattle.records.specs.declared.book.Book.{Book}
use Rattle.records.specs.declared.mask.Mask.{Mask}
use Rattle.records.specs.declared.totals.Totals.{Totals}
use Rattle.records.specs.Book.{book_of, book_refusal}
use Rattle.records.specs.Mask.{count, mask_of, totals_of, mask_refusal}
use Rattle.records.specs.Read.{automaton, blocks_of, ReadsBook, ReadsMask}
use Rattle.records.proofs.Offsets.{blocks_counted}
use Rattle.records.proofs.WellFormed.{mask_record}

-- a value: nothing refused it
pub unless_ok : {A : Type 0} (o : Option Refusal) (x y : A) → unless o x ≡ Ok y → (o ≡ accepted) × (y ≡ x)
unless_ok None x y e = (refl, cc)
unless_ok (Some r) x y e = cc

-- a refusal: the checks gave it
pub unless_err : {A : Type 0} (o : Option Refusal) (x : A) (r : Refusal) → unless o x ≡ Err r → o ≡ Some r
unless_err None x r e = cc
unless_err (Some s) x r e = cc

-- a book: no check refused it, and it is this automaton
pub book_accepted : (bs : List ℕ) (b : Book) → ReadsBook bs (Ok b) → (book_refusal bs ≡ accepted) × (automaton b ≡ book_of bs)
book_accepted bs b h = h

-- a refusal: the checks gave it
pub book_refused : (bs : List ℕ) (r : Refusal) → ReadsBook bs (Err r) → book_refusal bs ≡ Some r
book_refused bs r h = h

-- a mask: no check refused it, it has these bytes, and the totals are those of its blocks
pub mask_accepted : (bs : List ℕ) (m : Mask) (t : Totals) → ReadsMask bs (Ok (m, t))
    → (mask_refusal bs ≡ accepted) × (m.bytes.now ≡ bs) × (t ≡ totals_of (mask_of bs))
mask_accepted bs m t h = h

-- and its bytes are those of as many blocks as they say
pub mask_holds : (bs : List ℕ) (m : Mask) (t : Totals) → ReadsMask bs (Ok (m, t)) → (length (blocks_of m) ≡ count bs) × (6 + 12 * count bs ≤ length bs)
mask_holds bs m t h = (rw h.1 (blocks_counted bs), omega (arith, (mask_record bs h.0).size))

-- a refusal: the checks gave it
pub mask_refused : (bs : List ℕ) (r : Refusal) → ReadsMask bs (Err r) → mask_refusal bs ≡ Some r
mask_refused bs r h = h
