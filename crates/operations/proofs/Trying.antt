-- What try promises, from what its steps give.
-- Assumes nothing.
use Prim.Native.Nat.{ℕ, ◌≤◌, ◌<◌}
use Rattle.std.proofs.Common.{Option, None, Some, Ok, Err}
use Rattle.std.specs.Option.{option_map_or}
use mathlib.Core.Path.{◌≡◌, refl, ◌∙◌, ap}
use mathlib.Core.Logic.Iff
use mathlib.Core.Logic.{◌↔◌}
use mathlib.Core.Bool.{Bool, true, false}
use mathlib.Core.List.{List}
use native.Mathlib.Omega.{arith}
use borrow.Author.Tests.{lt-ltb, le-ltb}
use lib.Dec.{T}
use lib.ListN.{length}
use Rattle.model.specs.declared.Refusal.{Refusal}
use Rattle.model.specs.declared.Refusal.TheVariants.{TooLong, Strange}
use Rattle.model.specs.Refusal.{number, accepted, unless}
use Rattle.model.specs.Membership.{spells, accepts}
use Rattle.model.proofs.Membership.{spells_exact, accepts_exact}
use Rattle.records.specs.Book.{book_head, book_of}
use Rattle.records.specs.Mask.{mask_of}
use Rattle.records.specs.Read.{automaton, blocks_of}
use Rattle.records.proofs.Checks.{on, off}
use Rattle.membership.specs.Word.{strange, Letters}
use Rattle.membership.proofs.Strange.{none_strange}
use Rattle.operations.specs.declared.pair.Pair.{Pair}
use Rattle.operations.specs.Pair.{pair_refusal, ReadsPair}
use Rattle.operations.specs.Try.{try_refusal, tried, try_numbers, yes, Tries}
use Rattle.operations.proofs.Pairs.{pair_records}

-- a refusal
refusing : (bs ms w : List ℕ) (r : Refusal) → try_refusal bs ms w ≡ Some r → Tries bs ms w (Err r)
unfolding tried
refusing bs ms w r e = record { answer = rw e; mask = λ z. absurd (let z' = rw e at z in cc); book = λ z. absurd (let z' = rw e at z in cc) }

-- the book or the mask is refused
pub try_refused : (bs ms w : List ℕ) (r : Refusal) → pair_refusal bs ms ≡ Some r → Tries bs ms w (Err r)
unfolding try_refusal
try_refused bs ms w r e = refusing bs ms w r (rw e)

-- yes is 1
yes_one : (t : Bool) → (yes t ≡ 1) ↔ T t
yes_one true = (λ e. tt, λ t. refl)
yes_one false = (λ e. absurd (omega arith), λ t. absurd t)

-- the two answers
answering : (bs ms w : List ℕ) → try_refusal bs ms w ≡ accepted → Tries bs ms w (Ok (record { mask = spells (mask_of ms) w; book = accepts (book_of bs) w }))
unfolding tried
answering bs ms w e =
    record {
      answer = rw e;
      mask = λ z. Iff.trans (yes_one (spells (mask_of ms) w)) (spells_exact (mask_of ms) w);
      book = λ z. Iff.trans (yes_one (accepts (book_of bs) w)) (accepts_exact (book_of bs) w);
    }

-- a book and a mask that are accepted
module _ (bs ms w : List ℕ) (p : Pair) (read : ReadsPair bs ms (Ok p)) where
  -- the book's letters are those of its automaton
  same_letters : p.book.table.letters ≡ (book_head bs).letters
  same_letters = ap (λ d. d.table.letters) read.1

  -- the code is too long
  pub try_long : 1024 < length w → Tries bs ms w (Err TooLong)
  unfolding try_refusal
  try_long h = refusing bs ms w TooLong (rw read.0 (on _ TooLong _ (lt-ltb 1024 (length w) h)))

  -- it has a letter that the book lacks
  pub try_strange : length w ≤ 1024 → strange p.book.table.letters w ≡ true → Tries bs ms w (Err Strange)
  unfolding try_refusal
  try_strange h s =
      let fails = rw same_letters at s in
      refusing bs ms w Strange (rw read.0 (off _ TooLong _ (le-ltb 1024 (length w) h) ∙ on _ Strange accepted fails))

  -- it is tried
  module _ (h : length w ≤ 1024) (s : strange p.book.table.letters w ≡ false) where
    pub try_answers : (m b : Bool) → m ≡ spells (blocks_of p.mask) w → b ≡ accepts (automaton p.book) w
        → Tries bs ms w (Ok (record { mask = m; book = b }))
    unfolding try_refusal
    try_answers m b d e =
        let passes : try_refusal bs ms w ≡ accepted
        = rw read.0 (off _ TooLong _ (le-ltb 1024 (length w) h) ∙ off _ Strange accepted (rw same_letters at s)) in
        rw (rw read.2 at d, rw read.1 at e) (answering bs ms w passes)

    -- its letters are the book's, and so can be in the mask's sets
    pub try_letters : Letters p.book.table.letters w × Letters 64 w
    try_letters =
        let few = (pair_records bs ms read.0).0.sound.letters in
        let own = (none_strange p.book.table.letters w).0 s in
        (own, λ i l. omega (arith, own i l, same_letters, few))

-- the refusal number at the host is that of the checks
pub try_refusal_number : (bs ms w : List ℕ) → (try_numbers (tried bs ms w)).refusal ≡ option_map_or number (try_refusal bs ms w) 0
unfolding tried
try_refusal_number bs ms w = go (try_refusal bs ms w)
  where
    go : (o : Option Refusal) → (try_numbers (unless o (record { mask = spells (mask_of ms) w; book = accepts (book_of bs) w }))).refusal ≡ option_map_or number o 0
    go None = refl
    go (Some r) = refl
