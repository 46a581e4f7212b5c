-- What place promises, from what its steps give.
-- Assumes nothing.
use Prim.Native.Nat.{ℕ, zero, suc, ◌-◌, ◌^◌, ◌≤◌, ◌<◌}
use Rattle.std.proofs.Common.{Option, None, Some, Ok, Err}
use Rattle.std.specs.Option.{option_map_or}
use mathlib.Core.Path.{◌≡◌, refl, ◌∙◌, sym}
use mathlib.Core.Logic.{◌↔◌}
use mathlib.Core.Bool.{Bool, true, false, ◌||◌}
use mathlib.Core.List.{List}
use native.Mathlib.Omega.{arith}
use borrow.Author.Tests.{ltb-false, eqb-false}
use lib.Dec.{T, eqb, ltb}
use lib.ListN.{length, take}
use Rattle.std.proofs.lemmas.List.{get_or-take}
use Rattle.model.specs.declared.Block.{Block}
use Rattle.model.specs.declared.Refusal.{Refusal}
use Rattle.model.specs.declared.Refusal.TheVariants.{Missing}
use Rattle.model.specs.Refusal.{number, accepted, unless}
use Rattle.model.specs.Set.{Member, both}
use Rattle.model.specs.DashedString.{block, block_at}
use Rattle.model.specs.Automaton.{Dfa}
use Rattle.model.specs.Passes.{finals, narrowed_list}
use Rattle.model.specs.Verdict.{narrowed_mask, single, every, say, some_legal, some_illegal, verdict}
use Rattle.model.specs.Place.{unless_none, place}
use Rattle.model.specs.Demand3.{Has, Puts}
use Rattle.model.proofs.Demand3.{demand_3}
use Rattle.records.specs.Book.{book_of}
use Rattle.records.specs.Mask.{mask_of}
use Rattle.records.specs.Read.{automaton, blocks_of}
use Rattle.records.proofs.Checks.{on, off, neither}
use Rattle.records.proofs.WellFormed.{mask_record, checked}
use Rattle.operations.specs.declared.pair.Pair.{Pair}
use Rattle.operations.specs.Pair.{from_record, pair_refusal, ReadsPair}
use Rattle.operations.specs.Placed.{missing, place_refusal, entry_at, placed, place_numbers, Places}
use Rattle.operations.proofs.Pairs.{given_checks}
use Rattle.operations.proofs.Passing.{found_legal}

-- ---- check 11

-- nothing is missing: the mask has the block, and the block the place
pub none_missing : (xs : List Block) (i j : ℕ) → missing xs i j ≡ false → (0 < i) × (i - 1 < length xs) × (j ≤ (block_at xs (i - 1)).lower)
unfolding missing
none_missing xs i j h =
    let (h, l) = (neither (eqb i 0 || ltb (length xs) i) (ltb (block_at xs (i - 1)).lower j)).0 h in
    let (z, k) = (neither (eqb i 0) (ltb (length xs) i)).0 h in
    let positive = eqb-false i 0 z in
    let within = ltb-false (length xs) i k in
    (omega arith, omega arith, ltb-false (block_at xs (i - 1)).lower j l)

-- ---- the answer

-- a refusal
refusing : (bs ms : List ℕ) (i j : ℕ) (r : Refusal) → place_refusal bs ms i j ≡ Some r → Places bs ms i j (Err r)
unfolding placed
refusing bs ms i j r e = record { answer = rw e; letters = λ x is. cc }

-- the book or the mask is refused
pub place_refused : (bs ms : List ℕ) (i j : ℕ) (r : Refusal) → pair_refusal bs ms ≡ Some r → Places bs ms i j (Err r)
unfolding place_refusal
place_refused bs ms i j r e = refusing bs ms i j r (rw e)

-- a letter is in the set of a mandatory place exactly when some legal code, in some cut, has it there
place_letters : (bs ms : List ℕ) (i j : ℕ) → pair_refusal bs ms ≡ accepted → missing (mask_of ms) i j ≡ false → 0 < j
    → (c : ℕ) → Member c (place (book_of bs) (mask_of ms) i j).base ↔ Has (book_of bs) (mask_of ms) (Puts c (i - 1) (j - 1))
place_letters bs ms zero j none h l c = absurd (omega (arith, (none_missing (mask_of ms) 0 j h).0))
place_letters bs ms (suc i) zero none h l c = absurd (omega arith)
place_letters bs ms (suc i) (suc j) none h l c =
    let (book, mask, _) = given_checks (from_record bs ms) none in
    let back : (n : ℕ) → suc n - 1 ≡ n = λ n. omega arith in
    let (_, within, lower) = rw (back i) at (none_missing (mask_of ms) (suc i) (suc j) h) in
    rw (back i, back j) ((demand_3 (book_of bs) (mask_of ms) (checked bs (mask_of ms) book (mask_record ms mask).bounds)).places i j c within (omega arith))

-- a book and a mask that are accepted
module _ (bs ms : List ℕ) (i j : ℕ) (p : Pair) (read : ReadsPair bs ms (Ok p)) where
  -- the block or its place is missing
  pub place_missing : missing (blocks_of p.mask) i j ≡ true → Places bs ms i j (Err Missing)
  unfolding place_refusal
  place_missing h = refusing bs ms i j Missing (rw read.0 (on _ Missing accepted (rw read.2 at h)))

  -- they are there
  pub place_answers : (x : Block) → missing (blocks_of p.mask) i j ≡ false → x ≡ place (automaton p.book) (blocks_of p.mask) i j → Places bs ms i j (Ok x)
  unfolding place_refusal placed
  place_answers x h e =
      let there : missing (mask_of ms) i j ≡ false = rw read.2 at h in
      let same : x ≡ place (book_of bs) (mask_of ms) i j = rw (read.1, read.2) at e in
      let passes : place_refusal bs ms i j ≡ accepted = rw read.0 (off _ Missing accepted there) in
      record {
        answer = rw (passes, same);
        letters =
            λ y is l c.
            let same : place (book_of bs) (mask_of ms) i j ≡ y = cc in
            rw same at (place_letters bs ms i j read.0 there l c);
      }

-- ---- the entry

module _ (b : Dfa) (xs : List Block) (n : ℕ) where
  -- for none, the empty set and bounds 0, 0
  entry_none : some_legal b xs ≡ false → block 0 0 0 ≡ entry_at b xs n
  unfolding verdict
  entry_none e = rw e

  -- else the entry of the narrowed list
  entry_some : some_legal b xs ≡ true → block_at (narrowed_list b xs) n ≡ entry_at b xs n
  unfolding verdict
  entry_some e = rw e (go (some_illegal b xs) (every single (narrowed_mask b xs)))
    where
      go : (i o : Bool) → block_at (narrowed_list b xs) n ≡ unless_none (say true i o) (block_at (narrowed_list b xs) n)
      go false o = refl
      go true true = refl
      go true false = refl

  -- what the passes found: states s, and k entries in the room; r are the states among s that accept
  module _ (s k : ℕ) (room : List Block) (small : s < 2 ^ 64) (states : s ≡ finals b xs)
      (list : T (some_legal b xs) → take k room ≡ narrowed_list b xs) (r : ℕ) (shared : r ≡ both s b.accepting) where
    -- no code is legal
    pub placed_none : r ≡ 0 → block 0 0 0 ≡ entry_at b xs n
    placed_none z = entry_none ((found_legal b xs s small states r shared).0 z)

    -- some is
    pub placed_some : ¬ (r ≡ 0) → n < k → block_at room n ≡ entry_at b xs n
    placed_some z h =
        let legal = (found_legal b xs s small states r shared).1 z in
        sym (get_or-take k room n (block 0 0 0) h) ∙ rw (list (rw legal tt)) (entry_some legal)

-- the refusal number at the host is that of the checks
pub place_refusal_number : (bs ms : List ℕ) (i j : ℕ) → (place_numbers (placed bs ms i j)).refusal ≡ option_map_or number (place_refusal bs ms i j) 0
unfolding placed
place_refusal_number bs ms i j = go (place_refusal bs ms i j)
  where
    go : (o : Option Refusal) → (place_numbers (unless o (place (book_of bs) (mask_of ms) i j))).refusal ≡ option_map_or number o 0
    go None = refl
    go (Some r) = refl
