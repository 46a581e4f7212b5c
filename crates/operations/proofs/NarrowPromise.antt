-- What narrow promises, from what its steps give.
-- Assumes nothing.
use Prim.Native.Nat.{ℕ, ◌+◌, ◌*◌, ◌^◌, ◌≤◌, ◌<◌}
use Rattle.std.proofs.Common.{Option, Result, Ok, Err}
use Rattle.std.proofs.Common as option
use mathlib.Core.Path.{◌≡◌, refl, ◌∙◌, sym, ap, subst}
use mathlib.Core.Logic.{⊎_elim}
use mathlib.Core.Bool.{Bool, true, false, not}
use mathlib.Core.List.{List}
use native.Mathlib.Omega.{arith}
use borrow.Author.Tests.{le-ltb}
use lib.Dec.{T}
use lib.ListN.{length, take}
use Rattle.model.specs.declared.Block.{Block}
use Rattle.model.specs.declared.Refusal.{Refusal}
use Rattle.model.specs.declared.Refusal.TheVariants as refusal
use Rattle.std.specs.Option.{option_map_or}
use Rattle.model.specs.Refusal.{number, accepted, unless}
use Rattle.model.specs.declared.Verdict.{Verdict}
use Rattle.model.specs.declared.Verdict.TheVariants.{None, All, One, Some}
use Rattle.model.specs.Set.{has, both, some_member}
use Rattle.model.specs.DashedString.{Bounded}
use Rattle.model.specs.Automaton.{Dfa}
use Rattle.model.specs.Passes.{finals, narrowed_list}
use Rattle.model.specs.NormalForm.{normal, Reduced}
use Rattle.model.specs.Verdict.{narrowed_mask, single, every, say, some_legal, some_illegal, verdict}
use Rattle.model.specs.Place.{place}
use Rattle.model.specs.Demand3.{Demand3}
use Rattle.model.specs.Size.{WellFormed, Room, Fits}
use Rattle.model.proofs.NormalForm.{normal_reduced}
use Rattle.model.proofs.Room.{list_room, mask_fits}
use Rattle.model.proofs.Demand3.{none_or_not, demand_3}
use Rattle.records.specs.declared.book.Book.{Book}
use Rattle.records.specs.Bytes.{Bytes, over}
use Rattle.records.specs.Read.{automaton}
use Rattle.records.specs.Book.{book_head, book_of}
use Rattle.records.specs.Mask.{mask_of, mask_refusal, foreign}
use Rattle.records.specs.Written.{mask_bytes}
use Rattle.records.proofs.Answers.{unless_ok}
use Rattle.records.proofs.Checks.{off, each_map}
use Rattle.records.proofs.Over.{take_over}
use Rattle.records.proofs.RoundTrip.{length_mask, reads_back}
use Rattle.records.proofs.WellFormed.{checked}
use Rattle.operations.specs.declared.Narrowed.{Narrowed}
use Rattle.operations.specs.Buffer.{room_refusal}
use Rattle.operations.specs.Pair.{Given, from_record, given_refusal, pair_refusal}
use Rattle.operations.specs.Narrow.{written, narrow_record, narrow_refusal, narrowed, narrow_buffer, narrow_numbers, Narrows, Answers}
use Rattle.operations.proofs.Pairs.{given_checks, pair_room}
use Rattle.operations.proofs.Passing.{found_legal}

-- ---- what is written, read back

-- where the verdict is not none, the record is written
written_some : (v : Verdict) (bytes : List ℕ) → ¬ (v ≡ None) → written v bytes ≡ bytes
written_some None bytes n = absurd (n refl)
written_some All bytes n = refl
written_some One bytes n = refl
written_some Some bytes n = refl

-- for none, demand 3 says nothing of the narrowed mask
none_any : {b : Dfa} {xs : List Block} {v : Verdict} {ys : List Block} {p : ℕ → ℕ → Block} → Demand3 b xs v ys p → v ≡ None
    → (zs : List Block) → Demand3 b xs v zs p
none_any d e zs =
    record {
      none = d.none;
      all = d.all;
      keeps = λ w l. absurd (d.none.0 e w l);
      adds = λ n. absurd (n e);
      places = d.places;
      mask = λ n. absurd (n e);
    }

-- where the checks refuse, the buffer keeps every byte
pub narrow_refused : (g : Given) (old : List ℕ) (r : Refusal) → given_refusal g ≡ option.Some r → Narrows g old old (Err r)
unfolding narrow_refusal narrowed narrow_buffer
narrow_refused g old r e = record { answer = rw e; buffer = rw e; meaning = λ n a. cc; again = λ n a. cc }

-- a book and a mask that are not refused
module _ (g : Given) (none : given_refusal g ≡ accepted) (fits : Fits (book_head g.book).letters g.blocks) where
  abbrev b : Dfa
  b = book_of g.book

  abbrev xs : List Block
  xs = g.blocks

  abbrev m : ℕ
  m = (book_head g.book).letters

  -- the narrowed mask is written and read back
  back : let ys = narrowed_mask b xs in
      (mask_refusal (mask_bytes ys) ≡ accepted) × (mask_of (mask_bytes ys) ≡ ys) × (foreign m (mask_of (mask_bytes ys)) ≡ false)
  back = reads_back m _ (mask_fits b m xs fits.room)

  -- demand 3, of what is written
  means : Demand3 b xs (verdict b xs) (mask_of (narrow_record g)) (place b xs)
  unfolding narrow_record
  means =
      let bounds = each_map (WellFormed m) Bounded (λ x f. f.bounds) xs fits.room.each in
      let demand = demand_3 b xs (checked g.book xs (given_checks g none).0 bounds) in
      ⊎_elim (λ e. none_any demand e _) (λ n. rw (written_some (verdict b xs) _ n, back.1) demand)
      (none_or_not (verdict b xs))

  -- it is accepted again with the same book, and in normal form
  taken_again : ¬ (verdict b xs ≡ None)
      → (pair_refusal g.book (narrow_record g) ≡ accepted) × Reduced (mask_of (narrow_record g))
  unfolding narrow_record given_refusal narrowed_mask
  taken_again n =
      rw (written_some (verdict b xs) (mask_bytes (narrowed_mask b xs)) n)
      (rw ((given_checks g none).0, back.0) (off _ refusal.Foreign accepted back.2), rw back.1 (normal_reduced (narrowed_list b xs)))

  -- the verdict is answered with the record, or 10
  answering : (old new : List ℕ) (a : Result Narrowed Refusal) → Answers (verdict b xs) (narrow_record g) old new a → Narrows g old new a
  unfolding narrow_refusal narrowed narrow_buffer
  answering old new a answers =
      record {
        answer = rw none answers.answer;
        buffer = rw none answers.buffer;
        meaning = λ n is. let (front, same) = written_there n is in rw (front, same) means;
        again = λ n is some. let (front, same) = written_there n is in rw front (taken_again (rw same at some));
      }
    where
      -- where nothing is refused, the record is written
      written_there : (n : Narrowed) → a ≡ Ok n → (take n.bytes new ≡ narrow_record g) × (n.verdict ≡ verdict b xs)
      written_there n is =
          let (passes, same) = unless_ok (room_refusal (narrow_record g) (length old)) _ n (sym answers.answer ∙ is) in
          let put : new ≡ over (narrow_record g) old = rw passes at answers.buffer in
          rw (same, put) (take_over (narrow_record g) old, refl)

-- ---- the steps

-- where some code is legal, the verdict is not none
written_said : (illegal singles : Bool) (bytes : List ℕ) → written (say true illegal singles) bytes ≡ bytes
written_said false singles bytes = refl
written_said true false bytes = refl
written_said true true bytes = refl

-- every letter is below 64
room_64 : (m : ℕ) (xs : List Block) → Room m xs → Room 64 xs
room_64 m xs r = record { each = each_map (WellFormed m) (WellFormed 64) formed xs r.each; sum = r.sum }
  where
    formed : (x : Block) → WellFormed m x → WellFormed 64 x
    formed x f = record { bounds = f.bounds; bytes = f.bytes; letters = λ c k. k.small }

-- where some code is legal, the narrowed list has room
pub list_fits : (d : Dfa) (m : ℕ) (xs : List Block) → Fits m xs → (s : ℕ) → s < 2 ^ 64 → s ≡ finals d xs
    → (ys : List Block) → (T (some_legal d xs) → ys ≡ narrowed_list d xs) → (r : ℕ) → r ≡ both s d.accepting → ¬ (r ≡ 0) → Room 64 ys
list_fits d m xs fits s small states ys list r shared n =
    let legal = (found_legal d xs s small states r shared).1 n in
    rw (list (rw legal tt)) (room_64 m _ (list_room d m xs fits.room))

-- a book and blocks, however they are given, that no check refuses and that fit; what the passes found, and the states among these that
-- accept
module _
    (g : Given) (none : given_refusal g ≡ accepted) (b : Book) (is : automaton b ≡ book_of g.book)
    (xs : List Block) (same : xs ≡ g.blocks) (fits : Fits b.table.letters xs)
    (s : ℕ) (ys : List Block) (small : s < 2 ^ 64) (states : s ≡ finals (automaton b) xs)
    (list : T (some_legal (automaton b) xs) → ys ≡ narrowed_list (automaton b) xs)
    (r : ℕ) (shared : r ≡ both s b.accepting) where
  given_fits : Fits (book_head g.book).letters g.blocks
  given_fits = subst (λ d. Fits d.table.letters g.blocks) is (rw same at fits)

  legal : ((r ≡ 0) → some_legal (book_of g.book) g.blocks ≡ false) × (¬ (r ≡ 0) → some_legal (book_of g.book) g.blocks ≡ true)
  legal = rw (is, same) at (found_legal (automaton b) xs s small states r shared)

  -- where no code is legal, none is answered and nothing written
  pub narrow_none : (old : List ℕ) → r ≡ 0 → Narrows g old old (Ok (record { verdict = None; bytes = 0 }))
  unfolding over verdict narrow_record
  narrow_none old z =
      let passes = off _ refusal.Room accepted (le-ltb (length old) 0 (omega arith)) in
      answering g none given_fits old old _ (rw (legal.0 z) (record { answer = rw passes; buffer = rw passes }))

  -- where some is, the verdict is answered with the normal form of the narrowed list
  pub narrow_some : (old new : List ℕ) (a : Result Narrowed Refusal) → ¬ (r ≡ 0)
      → Answers (say true (some_member s (λ q. not (has b.accepting q))) (every single (normal ys))) (mask_bytes (normal ys)) old new a
      → Narrows g old new a
  unfolding narrowed_mask some_illegal verdict narrow_record
  narrow_some old new a n h =
      let there = rw (is, same) at list (rw (legal.1 n) tt) in
      let found = rw (is, same) at states in
      answering g none given_fits old new a (rw (legal.1 n, written_said) (rw (found, there, ap (λ d. d.accepting) is) at h))

-- ---- beside

-- what holds of a mask's blocks, copied, holds of the mask
pub narrow_record_lem : (bs ms : List ℕ) (xs : List Block) → xs ≡ mask_of ms → mask_refusal ms ≡ accepted → (old new : List ℕ) (a : Result Narrowed Refusal)
    → Narrows (record { book = bs; blocks = xs; failing = accepted }) old new a → Narrows (from_record bs ms) old new a
narrow_record_lem bs ms xs e none old new a h = rw none (rw e at h)

-- the refusal number at the host is that of the checks
pub narrow_refusal_number : (g : Given) (room : ℕ) → (narrow_numbers (narrowed g room)).refusal ≡ option_map_or number (narrow_refusal g room) 0
unfolding narrowed
narrow_refusal_number g room = go (narrow_refusal g room)
  where
    go : (o : Option Refusal) → (narrow_numbers (unless o (record { verdict = verdict (book_of g.book) g.blocks; bytes = length (narrow_record g) }))).refusal ≡ option_map_or number o 0
    go option.None = refl
    go (option.Some r) = refl

-- nothing is written, or the record
written_shorter : (v : Verdict) (bytes : List ℕ) → length (written v bytes) ≤ length bytes
written_shorter None bytes = omega arith
written_shorter All bytes = omega arith
written_shorter One bytes = omega arith
written_shorter Some bytes = omega arith

-- an answer buffer for 1,024 blocks always suffices
pub narrow_suffices : (bs ms : List ℕ) (room : ℕ) → Bytes ms → pair_refusal bs ms ≡ accepted → 6 + 12 * 1024 ≤ room
    → narrow_refusal (from_record bs ms) room ≡ accepted
unfolding narrow_record narrow_refusal
narrow_suffices bs ms room bytes none h =
    let b = book_of bs in
    let m = (book_head bs).letters in
    let xs = mask_of ms in
    let few = (mask_fits b m xs (pair_room bs ms bytes none)).few in
    let shorter = written_shorter (verdict b xs) (mask_bytes (narrowed_mask b xs)) in
    let fits : length (narrow_record (from_record bs ms)) ≤ room = omega (arith, few, length_mask (narrowed_mask b xs), shorter) in
    rw none (off _ refusal.Room accepted (le-ltb room (length (narrow_record (from_record bs ms))) fits))
