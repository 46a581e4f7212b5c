-- What the checks leave: a sound automaton, and a mask that fits a record (01, "The four operations"). Nothing else is refused.
-- Assumes nothing.
use Rattle.std.proofs.Common.{◌≡◌, ℕ, zero, suc, ◌+◌, ◌*◌, ◌^◌, ◌<◌, ◌≤◌, true, false, ◌⊎◌, ◌↔◌, List, [], ◌∷◌, length, arith, length-drop, le-ltb, ne_eqb}
use Rattle.std.proofs.lemmas.Bool.Decides.{nat_tests}
use Rattle.model.specs.declared.Block.{Block}
use Rattle.model.specs.Refusal.{accepted, refuse}
use Rattle.model.specs.Set.{Member, some_from}
use Rattle.model.specs.DashedString.{Each, Bounded}
use Rattle.model.specs.Automaton.{Dfa}
use Rattle.model.specs.Legal.{Checked}
use Rattle.model.specs.Size.{uppers, WellFormed, Fits}
use Rattle.records.specs.declared.automaton.BookHead.{BookHead}
use Rattle.records.specs.Bytes.{Bytes}
use Rattle.records.specs.Check.{some, length_field, kind, unframed}
use Rattle.records.specs.Book.{book_head, moves_of, out_of_range, book_of, stray, unnamed, book_checks, book_refusal}
use Rattle.records.specs.Mask.{count, block_from, blocks_from, mask_of, crossed, blocks_refusal, mask_refusal, beyond, foreign}
use Rattle.records.specs.WellFormed.{Sound, BookRecord, MaskRecord}
use Rattle.records.proofs.Numbers.{number_lt}
use Rattle.records.proofs.Offsets.{blocks_counted}
use Rattle.records.proofs.Checks.{framing, in_range, none_from, none_each, none_at, each_map}

-- a slice of more than 65,535 bytes is refused by check 1: no length field says so much
pub too_long : (bs : List ℕ) → Bytes bs → 65535 < length bs → unframed bs ≡ true
unfolding unframed
too_long bs h l =
    rw (le-ltb (length bs) 4 (omega arith), ne_eqb (length_field bs) (length bs) (λ e. omega (arith, number_lt 2 bs 0 h)))

-- ---- books

-- a move that isn't stray names a state, or is 255
named : (n r : ℕ) → (stray n r ≡ false) ↔ ((r < n) ⊎ (r ≡ 255))
named n r = grind (arith, nat_tests)

-- check 6 leaves exactly these
naming : (b : BookHead) (moves : List ℕ) → (unnamed b moves ≡ false)
    ↔ ((b.start < b.states) × (some_from b.accepting b.states ≡ false) × (some (stray b.states) moves ≡ false))
unfolding unnamed
naming b moves = grind (arith, nat_tests)

-- and so do all book checks
book_passes : (bs : List ℕ) (b : BookHead) → (book_checks bs b ≡ accepted)
    ↔ ((unframed bs ≡ false) × (kind bs ≡ 1) × (15 ≤ length bs) × (out_of_range b ≡ false) × (length bs ≡ 15 + b.states * b.letters) × (unnamed b (moves_of bs) ≡ false))
unfolding refuse book_checks
book_passes bs b = grind (arith, nat_tests)

-- what is not refused as a book is a well-formed record
pub book_record : (bs : List ℕ) → book_refusal bs ≡ accepted → BookRecord bs
unfolding moves_of
book_record bs h =
    let b = book_head bs in
    let (frame, one, _, range, size, names) = (book_passes bs b).0 h in
    let (n, m) = (in_range b).0 range in
    let (start, accepting, moves) = (naming b (moves_of bs)).0 names in
    record {
      framed = ((framing bs).0 frame).1;
      kind = one;
      size = size;
      sound = record {
        some_state = n.0;
        states = omega (arith, n.1);
        some_letter = m.0;
        letters = m.1;
        moves = omega (arith, length-drop 15 bs, size);
        start = start;
        accepting = (none_from b.accepting b.states).0 accepting;
        named = λ i l. (named b.states _).0 ((none_at (stray b.states) (moves_of bs)).0 moves i l);
      };
    }

-- and no well-formed record is refused
pub record_book : (bs : List ℕ) → BookRecord bs → book_refusal bs ≡ accepted
unfolding moves_of
record_book bs t =
    let b = book_head bs in
    let s = t.sound in
    let frame = (framing bs).1 (omega (arith, t.size), t.framed) in
    let range = (in_range b).1 ((s.some_state, omega (arith, s.states)), (s.some_letter, s.letters)) in
    let bits = (none_from b.accepting b.states).1 s.accepting in
    let moves = (none_at (stray b.states) (moves_of bs)).1 (λ i l. (named b.states _).1 (s.named i l)) in
    (book_passes bs b).1 (frame, t.kind, omega (arith, t.size), range, t.size, (naming b (moves_of bs)).1 (s.start, bits, moves))

-- the dead state is not an accepting one
pub dead_accepts_nothing : (b : Dfa) → Sound b → ¬ Member b.table.states b.accepting
dead_accepts_nothing b s m = omega (arith, s.accepting b.table.states m)

-- ---- masks

-- of blocks of which none is crossed, each has l ≤ u
uncrossed : (xs : List Block) → (some crossed xs ≡ false) ↔ Each Bounded xs
uncrossed xs = none_each crossed Bounded (λ x. grind (arith, nat_tests)) xs

-- checks 7 and 8 leave exactly the blocks with l ≤ u, and uppers that sum to at most 1,024
blocks_pass : (xs : List Block) → (blocks_refusal xs ≡ accepted) ↔ (Each Bounded xs × (uppers xs ≤ 1024))
unfolding refuse blocks_refusal
blocks_pass xs = grind (arith, nat_tests, uncrossed)

pub blocks_bounds : (xs : List Block) → blocks_refusal xs ≡ accepted → Each Bounded xs × (uppers xs ≤ 1024)
blocks_bounds xs h = (blocks_pass xs).0 h

-- and so do all mask checks
mask_passes : (bs : List ℕ) → (mask_refusal bs ≡ accepted)
    ↔ ((unframed bs ≡ false) × (kind bs ≡ 2) × (6 ≤ length bs) × (count bs ≤ 1024) × (length bs ≡ 6 + 12 * count bs) × (blocks_refusal (mask_of bs) ≡ accepted))
unfolding refuse mask_refusal
mask_passes bs = grind (arith, nat_tests)

-- what is not refused as a mask is a well-formed record
pub mask_record : (bs : List ℕ) → mask_refusal bs ≡ accepted → MaskRecord bs
mask_record bs h =
    let (frame, two, _, few, size, blocks) = (mask_passes bs).0 h in
    let (bounds, sum) = blocks_bounds (mask_of bs) blocks in
    record { framed = ((framing bs).0 frame).1; kind = two; few = few; size = size; bounds = bounds; sum = sum }

-- and no well-formed record is refused
pub record_mask : (bs : List ℕ) → MaskRecord bs → mask_refusal bs ≡ accepted
record_mask bs t =
    let frame = (framing bs).1 (omega (arith, t.size), t.framed) in
    (mask_passes bs).1 (frame, t.kind, omega (arith, t.size), t.few, t.size, (blocks_pass (mask_of bs)).1 (t.bounds, t.sum))

-- so its blocks pass checks 7 and 8
pub mask_blocks : (bs : List ℕ) → mask_refusal bs ≡ accepted → blocks_refusal (mask_of bs) ≡ accepted
mask_blocks bs h = let (_, _, _, _, _, blocks) = (mask_passes bs).0 h in blocks

-- the hypotheses of demand 3, for a book that is not refused and blocks with l ≤ u
pub checked : (bs : List ℕ) (xs : List Block) → book_refusal bs ≡ accepted → Each Bounded xs → Checked (book_of bs) xs
checked bs xs h bounds =
    let s = (book_record bs h).sound in
    record { states = s.states; start = s.start; bounds = bounds }

-- the set of a block is 8 bytes
abbrev pub Wide : Block → Type 0
Wide x = x.base < 2 ^ 64

-- as it is in a record
each_bytes : (bs : List ℕ) → Bytes bs → (k i : ℕ) → Each Wide (blocks_from k bs i)
unfolding block_from blocks_from
each_bytes bs h zero i = tt
each_bytes bs h (suc k) i = (number_lt 8 bs i h, each_bytes bs h k (i + 12))

-- every letter of the block is below m
abbrev pub Native : ℕ → Block → Type 0
Native m x = (c : ℕ) → Member c x.base → c < m

-- check 9 leaves exactly these
pub none_foreign : (m : ℕ) (xs : List Block) → (foreign m xs ≡ false) ↔ Each (Native m) xs
unfolding foreign
none_foreign m xs = none_each (beyond m) (Native m) (λ x. none_from x.base m) xs

-- blocks with l ≤ u, a set of 8 bytes and letters below m are well-formed
formed : (m : ℕ) (xs : List Block) → Each Bounded xs → Each Wide xs → Each (Native m) xs → Each (WellFormed m) xs
formed m [] bounds bytes letters = tt
formed m (x ∷ xs) (h, bounds) (k, bytes) (l, letters) = (record { bounds = h; bytes = k; letters = l }, formed m xs bounds bytes letters)

-- at most 1,024 blocks of 8-byte sets that are not refused, with letters below m, fit a record
pub blocks_fit : (m : ℕ) (xs : List Block) → Each Wide xs → length xs ≤ 1024 → blocks_refusal xs ≡ accepted → foreign m xs ≡ false → Fits m xs
blocks_fit m xs wide few r f =
    let (bounds, sum) = blocks_bounds xs r in
    record { few = few; room = record { each = formed m xs bounds wide ((none_foreign m xs).0 f); sum = sum } }

-- a mask that is not refused, with letters below m, fits a record
pub record_fits : (m : ℕ) (ms : List ℕ) → Bytes ms → mask_refusal ms ≡ accepted → foreign m (mask_of ms) ≡ false → Fits m (mask_of ms)
unfolding mask_of
record_fits m ms h r f =
    let t = mask_record ms r in
    blocks_fit m (mask_of ms) (each_bytes ms h (count ms) 6) (omega (arith, blocks_counted ms)) (mask_blocks ms r) f

-- every letter is below 64, so every mask that is not refused fits one
pub record_fits_64 : (ms : List ℕ) → Bytes ms → mask_refusal ms ≡ accepted → Fits 64 (mask_of ms)
record_fits_64 ms h r =
    record_fits 64 ms h r ((none_foreign 64 (mask_of ms)).1 (each_map Bounded (Native 64) (λ x b c m. m.small) (mask_of ms) (mask_record ms r).bounds))
