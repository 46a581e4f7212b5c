-- What the loop back through the blocks keeps from block to block, and one block of it.
-- Assumes nothing.
use Prim.Native.Nat.{ℕ, zero, suc, ◌+◌, ◌-◌, ◌^◌, ◌≤◌, ◌<◌}
use mathlib.Core.Path.{◌≡◌, refl, ap, ap₂, sym, ◌∙◌}
use mathlib.Core.List.{List, [], ◌∷◌, ◌++◌, append_assoc}
use native.Mathlib.Omega.{arith}
use borrow.Rule.Slice.PartMut.{put_mid}
use lib.Bits.{and_lt}
use lib.ListN.{length, get_or, set, take, drop, replicate}
use lib.Seq.{take-suc, take-take, drop-drop, get_or-take}
use Rattle.std.proofs.lemmas.List.{drop_all, drop_at, drop-set, length-take, length-drop}
use Rattle.std.proofs.lemmas.Slice.{take-put_mid_below}
use Rattle.model.specs.declared.Block.{Block}
use Rattle.model.specs.DashedString.{block, block_at, Each, Bounded}
use Rattle.model.specs.Set.{both}
use Rattle.model.specs.Size.{WellFormed, Room, lower_sum}
use Rattle.model.specs.Automaton.{Table}
use Rattle.model.specs.Passes.{mandatory, optional, segments_of, segments, at_most, backward, pruned, final}
use Rattle.model.proofs.Set.{in_both}
use Rattle.records.proofs.Checks.{each_map}
use Rattle.bitset.proofs.Laws.{same_members}
use Rattle.propagator.specs.Moves.{exactly}
use Rattle.propagator.specs.Rows.{kept_to, entries_to, Inside, places_of, sets_of, stored_by, stored}
use Rattle.propagator.proofs.Rows.{each_get, sum_snoc, block_final, final_snoc, kept_inside, block_kept, block_entries, entries_snoc}
use Rattle.propagator.proofs.Stored.{split_fits, split_front, split_own, split_first, sets_most, last_by, end_by, length_by, front_by}

-- a set within another is what is in both
pub inside_both : (a b : ℕ) → a < 2 ^ 64 → b < 2 ^ 64 → Inside b a → both a b ≡ b
inside_both a b h l f = same_members (both a b) b (and_lt 64 a b h l) l (λ q. (λ m. ((in_both a b).0 m).1, λ m. (in_both a b).1 (f q m, m)))

-- ---- one block

-- its sets are row, from is its Ql and within its R
module _ (t : Table) (x : Block) (Q : ℕ) (row : List ℕ) (h : Bounded x) (stored : row ≡ stored_by t Q x) where
  -- there are l sets
  pub block_long : x.lower ≤ length row
  block_long = omega (arith, ap length stored, length_by t Q x h, sets_most t Q x h)

  -- those of its places
  pub block_front : (Q' : ℕ) (front : List ℕ) (n : ℕ) → Q' ≡ Q → front ≡ take x.lower row → n ≡ x.lower → front ≡ places_of t x.base Q' n
  block_front Q' front n e f g = rw (e, g) (f ∙ ap (take x.lower) stored ∙ front_by t Q x h)

  module _ (E from within : ℕ) (e : from ≡ get_or (Q ∷ row) x.lower 0) (f : within ≡ get_or (Q ∷ row) (length row) 0) where
    from_is : from ≡ exactly t x.base Q x.lower
    from_is = e ∙ ap (λ r. get_or (Q ∷ r) x.lower 0) stored ∙ last_by t Q x h

    within_is : within ≡ final t Q (segments_of x)
    within_is = f ∙ ap (λ r. get_or (Q ∷ r) (length r) 0) stored ∙ ap (λ n. get_or (Q ∷ stored_by t Q x) n 0) (length_by t Q x h) ∙ end_by t Q x h

    -- what the optional part asks
    pub block_within : within < 2 ^ 64 → E < 2 ^ 64 → Inside E (final t Q (segments_of x))
        → (within ≡ at_most t x.base from (x.upper - x.lower)) × (both within E ≡ E)
    block_within w l i = (
      within_is ∙ block_final t x Q ∙ ap (λ q. at_most t x.base q (x.upper - x.lower)) (sym from_is),
      inside_both within E w l (λ q m. rw within_is (i q m)),
    )

    -- y is its entry, and M the states kept before it; Q' is Q, and n places stand before it
    module _ (y : Block) (M : ℕ) (made : y ≡ pruned t from (optional x.base (x.upper - x.lower)) E)
        (kept : M ≡ backward t from (optional x.base (x.upper - x.lower)) E) (Q' n : ℕ) (first : Q' ≡ Q) (size : n ≡ x.lower) where
      -- the states kept before the block
      pub block_returned : (r : ℕ) → r ≡ kept_to t M Q' (replicate n (mandatory x.base)) → r ≡ kept_to t E Q (segments_of x)
      block_returned r g = rw (g, kept, from_is, first, size, block_kept t E Q x) refl

      -- its entries: those of the places, then that of the optional part
      pub block_made : (entries places : List Block) → length entries ≡ x.lower + 1 → places ≡ entries_to t M Q' (replicate n (mandatory x.base))
          → places ++ drop x.lower (set entries x.lower y) ≡ entries_to t E Q (segments_of x)
      block_made entries places l g =
          ap (λ ys. places ++ ys) (drop-set entries x.lower y (omega (arith, l)) ∙ ap (◌∷◌ y) (drop_all (x.lower + 1) entries (omega (arith, l))))
          ∙ rw (g, made, kept, from_is, first, size, block_entries t E Q x) refl

-- ---- all blocks

-- the n elements before element at are lent
pub part_long : (xs : List Block) (at n : ℕ) → n ≤ at → at ≤ length xs → length (take (at - (at - n)) (drop (at - n) xs)) ≡ n
part_long xs at n h l = omega (arith, length-take (at - (at - n)) (drop (at - n) xs), length-drop (at - n) xs)

-- what each block has, the first of them have
each_take : (P : Block → Type 0) (xs : List Block) → Each P xs → (i : ℕ) → Each P (take i xs)
each_take P xs e zero = tt
each_take P [] e (suc i) = tt
each_take P (x ∷ xs) e (suc i) = (e.0, each_take P xs e.1 i)

-- the first i blocks are what they were, the entries of the others stand behind, and the row has the sets of the first i
pub record Returning (t : Table) (Q E : ℕ) (xs blocks : List Block) (first : ℕ) (row : List ℕ) (kept at i : ℕ) : Type 0 where
  pub few : i ≤ length xs
  pub before : take i blocks ≡ take i xs
  pub start : first ≡ Q
  pub sets : row ≡ stored t Q (take i xs)
  pub begins : at ≡ lower_sum (take i xs) + i
  pub inside : Inside kept (final t Q (segments (take i xs)))
  pub made : entries_to t E Q (segments xs) ≡ entries_to t kept Q (segments (take i xs)) ++ drop at blocks

-- the block x that is taken next, as number k: its entries and its sets are the last of those left
pub record Taken (m before : ℕ) (row : List ℕ) (at k : ℕ) (x : Block) : Type 0 where
  pub formed : WellFormed m x
  pub begins : at ≡ before + k + (x.lower + 1)
  pub fits : sets_of x ≤ length row

module _ {t : Table} {Q E : ℕ} {xs blocks : List Block} {first : ℕ} {row : List ℕ} {kept at i : ℕ} (returning : Returning t Q E xs blocks first row kept at i) where
  -- all blocks are taken
  pub returning_ends : i ≡ 0 → blocks ≡ entries_to t E Q (segments xs)
  unfolding lower_sum entries_to
  returning_ends none =
      let old : Returning t Q E xs blocks first row kept at 0 = rw none at returning in
      let start : at ≡ 0 = omega (arith, old.begins) in
      sym (rw start at old.made)

  -- the next block, i - 1 = k
  module _ (k : ℕ) (next : i ≡ suc k) (long : k < length blocks) {m : ℕ} (room : Room m xs) where
    abbrev x : Block
    x = block_at blocks k

    abbrev ys : List Block
    ys = take k xs

    abbrev P : ℕ
    P = final t Q (segments ys)

    old : Returning t Q E xs blocks first row kept at (suc k)
    old = rw next at returning

    -- it is what it was
    is : x ≡ block_at xs k
    is =
        sym (get_or-take (suc k) blocks k (block 0 0 0) (omega arith))
        ∙ ap (λ l. block_at l k) old.before
        ∙ get_or-take (suc k) xs k (block 0 0 0) (omega arith)

    formed : WellFormed m x
    formed = rw is (each_get (WellFormed m) xs room.each k (block 0 0 0) (omega (arith, old.few)))

    each : Each Bounded ys
    each = each_take Bounded xs (each_map (WellFormed m) Bounded (λ y f. f.bounds) xs room.each) k

    -- the first i blocks are those before it, and it
    split : take (suc k) xs ≡ ys ++ x ∷ []
    split = take-suc xs k (block 0 0 0) (omega (arith, old.few)) ∙ ap (λ y. ys ++ y ∷ []) (sym is)

    sets : row ≡ stored t Q (ys ++ x ∷ [])
    sets = old.sets ∙ ap (stored t Q) split

    begins : at ≡ lower_sum ys + k + (x.lower + 1)
    begins = omega (arith, old.begins, ap lower_sum split, sum_snoc ys x)

    -- it is taken
    pub returning_taken : Taken m (lower_sum ys) row at k x
    returning_taken = record { formed = formed; begins = begins; fits = split_fits t Q ys x each formed.bounds row sets }

    -- own are its c sets, and P' is its Q0
    module _ {c : ℕ} (count : c ≡ sets_of x) {P' : ℕ} {own : List ℕ} (e : P' ≡ get_or (first ∷ row) (length row - c) 0) (f : own ≡ drop (length row - c) row) where
      from : P' ≡ P
      from = e ∙ ap₂ (λ q j. get_or (q ∷ row) (length row - j) 0) old.start count ∙ split_first t Q ys x each formed.bounds row sets

      within : Inside kept (final t P (segments_of x))
      within q h = rw (split, final_snoc t Q ys x) at (old.inside q h)

      -- its sets, and the states kept behind it are possible there
      pub returning_own : (own ≡ stored_by t P' x) × Inside kept (final t P' (segments_of x))
      returning_own = (
        f ∙ ap (λ j. drop (length row - j) row) count ∙ split_own t Q ys x each formed.bounds row sets ∙ ap (λ q. stored_by t q x) (sym from),
        λ q h. rw from (within q h),
      )

      -- its entries are made
      pub returning_more : {first' : ℕ} {row' : List ℕ} {r : ℕ} {part : List Block} → first' ≡ first → row' ≡ take (length row - c) row
          → at - (x.lower + 1) ≤ length blocks → r ≡ kept_to t kept P' (segments_of x) → part ≡ entries_to t kept P' (segments_of x)
          → let at' = at - (x.lower + 1) in Returning t Q E xs (put_mid at' (at - at') blocks part) first' row' r at' k
      returning_more {first'} {row'} {r} {part} p q room' g made =
          let at' = at - (x.lower + 1) in
          let blocks' = put_mid at' (at - at') blocks part in
          let back : at' + (at - at') ≡ at = omega arith in
          let behind : drop at' blocks' ≡ part ++ drop at blocks
          = drop_at (take at' blocks) (part ++ drop (at - at') (drop at' blocks)) at' (omega (arith, length-take at' blocks))
          ∙ ap (λ l. part ++ l) (drop-drop (at - at') at' blocks ∙ ap (λ j. drop j blocks) back) in
          let g' : r ≡ kept_to t kept P (segments_of x) = rw from at g in
          let made' : part ≡ entries_to t kept P (segments_of x) = rw from at made in
          record {
            few = omega (arith, old.few);
            before =
                take-put_mid_below at' (at - at') blocks part k (omega (arith, begins)) room'
                ∙ sym (take-take k (suc k) blocks (omega arith))
                ∙ ap (take k) old.before
                ∙ take-take k (suc k) xs (omega arith);
            start = p ∙ old.start;
            sets = q ∙ ap (λ j. take (length row - j) row) count ∙ split_front t Q ys x each formed.bounds row sets;
            begins = omega (arith, begins);
            inside = λ j h. kept_inside t kept P (segments_of x) within j (rw g' at h);
            made =
                old.made
                ∙ ap (λ l. l ++ drop at blocks) (ap (λ zs. entries_to t kept Q (segments zs)) split ∙ entries_snoc t kept Q ys x)
                ∙ append_assoc (entries_to t (kept_to t kept P (segments_of x)) Q (segments ys)) (entries_to t kept P (segments_of x)) (drop at blocks)
                ∙ ap₂ (λ s l. entries_to t s Q (segments ys) ++ l) (sym g') (ap (λ l. l ++ drop at blocks) (sym made') ∙ sym behind);
          }
