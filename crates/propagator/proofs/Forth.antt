-- What the way forward stores, place by place and block by block.
-- Assumes nothing.
use Prim.Native.Nat.{ℕ, suc, ◌+◌, ◌-◌, ◌≤◌, ◌<◌}
use mathlib.Core.Path.{◌≡◌, refl, ap, ap₂, sym, ◌∙◌}
use mathlib.Core.List.{List, [], ◌∷◌, ◌++◌, append_assoc, append-nil}
use native.Mathlib.Numerals.{add-one}
use native.Mathlib.Omega.{arith}
use borrow.Rule.Slice.PartMut.{put_mid}
use lib.ListN.{length, take, drop, set, replicate}
use lib.Seq.{take-suc-set, drop-drop, drop-cons}
use Rattle.std.proofs.lemmas.List.{take_all, drop_all, take_at, length-append, length-drop}
use Rattle.std.proofs.lemmas.Slice.{take-put_mid}
use Rattle.model.specs.declared.Block.{Block}
use Rattle.model.specs.DashedString.{block, block_at, Bounded}
use Rattle.model.specs.Size.{WellFormed, Room, lower_sum}
use Rattle.model.specs.Automaton.{Table}
use Rattle.model.specs.Passes.{segments_of, segments, after, at_most, final}
use Rattle.propagator.specs.Moves.{exactly}
use Rattle.propagator.specs.Rows.{places_of, sets_of, stored_sum, stored_by, stored}
use Rattle.propagator.proofs.Rows.{each_get, final_append, block_final}
use Rattle.propagator.proofs.Stored.{places_filled, length_places, sets_most, length_by}

-- a part of a slice that goes to its end is written
pub put_end : {X : Type 0} (j : ℕ) (xs ys : List X) → put_mid j (length xs - j) xs ys ≡ take j xs ++ ys
put_end j xs ys =
    ap (λ l. take j xs ++ (ys ++ l)) (drop-drop (length xs - j) j xs ∙ drop_all (j + (length xs - j)) xs (omega arith))
    ∙ ap (λ l. take j xs ++ l) (append-nil ys)

-- ---- the places of a block

-- the sets of the first j places are stored, and P is the last of them, or Q where j is 0
pub record Filling (t : Table) (S Q : ℕ) (sets : List ℕ) (P j : ℕ) : Type 0 where
  pub last : P ≡ exactly t S Q j
  pub places : take j sets ≡ places_of t S Q j

module _ {t : Table} {S Q : ℕ} {sets : List ℕ} {P j : ℕ} (filling : Filling t S Q sets P j) where
  -- one place more
  pub filling_more : {r : ℕ} → j < length sets → r ≡ after t S P → Filling t S Q (set sets j r) r (j + 1)
  unfolding exactly places_of
  filling_more {r} h e =
      let next : r ≡ exactly t S Q (suc j) = rw (← filling.last) e in
      record { last = rw (add-one j) next; places = rw (add-one j) (take-suc-set sets j r h ∙ ap₂ (λ ps x. ps ++ x ∷ []) filling.places next) }

  -- of n sets
  module _ {n : ℕ} (size : length sets ≡ n) where
    -- the set repeats, and all places behind are filled with it
    pub filling_repeats : {r : ℕ} {part : List ℕ} → j ≤ n → r ≡ after t S P → r ≡ P → part ≡ replicate (length sets - j) P
        → (P ≡ exactly t S Q n) × (put_mid j (length sets - j) sets part ≡ places_of t S Q n)
    filling_repeats {r} {part} h e d filled =
        let (last, all) = places_filled t S Q j n P part filling.last (sym e ∙ d) h (rw size at filled) in
        (last, put_end j sets part ∙ ap (λ ps. ps ++ part) filling.places ∙ all)

    -- all sets are stored
    pub filling_ends : j ≡ n → (P ≡ exactly t S Q n) × (sets ≡ places_of t S Q n)
    filling_ends e = (rw e at filling.last, sym (take_all n sets (omega (arith, size))) ∙ rw e at filling.places)

-- ---- a block

-- last is its Ql, and r what its optional part reaches from there
module _ (t : Table) (x : Block) (Q n last r : ℕ) (size : n ≡ x.lower) (e : last ≡ exactly t x.base Q n) (f : r ≡ at_most t x.base last (x.upper - x.lower)) where
  -- r is its R
  pub block_passed : r ≡ final t Q (segments_of x)
  block_passed = rw (f, e, size, block_final t x Q) refl

  -- its sets: those of its places, and behind them R as often as there is room
  pub block_stored : (sets places rest : List ℕ) → Bounded x → length sets ≡ sets_of x → places ≡ places_of t x.base Q n
      → let all = places ++ drop x.lower sets in rest ≡ replicate (length all - x.lower) r
      → put_mid x.lower (length all - x.lower) all rest ≡ stored_by t Q x
  unfolding stored_by
  block_stored sets places rest h room g filled =
      let all = places ++ drop x.lower sets in
      let own : places ≡ places_of t x.base Q x.lower = rw size at g in
      let long : length places ≡ x.lower = ap length own ∙ length_places t x.base Q x.lower in
      let many : length all ≡ sets_of x = omega (arith, length-append places (drop x.lower sets), length-drop x.lower sets, room, long, sets_most t Q x h) in
      put_end x.lower all rest
      ∙ ap (λ ps. ps ++ rest) (take_at places (drop x.lower sets) x.lower long ∙ own)
      ∙ ap (λ rs. places_of t x.base Q x.lower ++ rs) (filled ∙ ap₂ (λ k q. replicate (k - x.lower) q) many block_passed)

-- ---- all blocks

-- the blocks before those of rest are passed
pub record Passing (t : Table) (Q : ℕ) (xs : List Block) (sets : List ℕ) (states entries at : ℕ) (rest : List Block) : Type 0 where
  pub here : final t Q (segments xs) ≡ final t states (segments rest)
  pub counted : entries + (lower_sum rest + length rest) ≡ lower_sum xs + length xs
  pub sum : at + stored_sum rest ≡ stored_sum xs
  pub made : stored t Q xs ≡ take at sets ++ stored t states rest

module _ {t : Table} {Q : ℕ} {xs : List Block} {sets : List ℕ} {states entries at : ℕ} (i : ℕ) (passing : Passing t Q xs sets states entries at (drop i xs)) where
  -- all are passed
  pub passing_ends : i ≡ length xs
      → (states ≡ final t Q (segments xs)) × (entries ≡ lower_sum xs + length xs) × (at ≡ stored_sum xs) × (take at sets ≡ stored t Q xs)
  unfolding final lower_sum stored_sum stored
  passing_ends e =
      let old : Passing t Q xs sets states entries at [] = rw (drop_all i xs (omega (arith, e))) at passing in
      (sym old.here, omega (arith, old.counted), omega (arith, old.sum), sym (old.made ∙ append-nil (take at sets)))

  -- block i, which has k sets
  module _ (h : i < length xs) {k : ℕ} (size : k ≡ sets_of (block_at xs i)) where
    abbrev x : Block
    x = block_at xs i

    old : Passing t Q xs sets states entries at (x ∷ drop (suc i) xs)
    old = rw (drop-cons xs i (block 0 0 0) h) at passing

    -- its sets and its entries are among those counted
    pub passing_fits : (at + k ≤ stored_sum xs) × (entries + (x.lower + 1) ≤ lower_sum xs + length xs)
    unfolding lower_sum stored_sum
    passing_fits = (omega (arith, old.sum, size), omega (arith, old.counted))

    -- it is passed
    pub passing_more : {m : ℕ} → Room m xs → {r : ℕ} {part : List ℕ} → r ≡ final t states (segments_of x) → part ≡ stored_by t states x → at ≤ length sets
        → Passing t Q xs (put_mid at (at + k - at) sets part) r (entries + (x.lower + 1)) (at + k) (drop (i + 1) xs)
    unfolding lower_sum stored_sum stored
    passing_more {m} room {r} {part} f g fits =
        let rest = drop (suc i) xs in
        let long = length_by t states x (each_get (WellFormed m) xs room.each i (block 0 0 0) h).bounds in
        rw (add-one i)
        record {
          here = old.here ∙ final_append t states (segments_of x) (segments rest) ∙ ap (λ q. final t q (segments rest)) (sym f);
          counted = omega (arith, old.counted);
          sum = omega (arith, old.sum, size);
          made =
              old.made
              ∙ sym (append_assoc (take at sets) (stored_by t states x) (stored t (final t states (segments_of x)) rest))
              ∙ ap₂ (λ ss q. ss ++ stored t q rest)
              (ap (λ l. take at sets ++ l) (sym g) ∙ sym (take-put_mid at (at + k - at) sets part (at + k) (omega (arith, ap length g, long, size)) fits))
              (sym f);
        }
