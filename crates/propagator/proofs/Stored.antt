-- The row of sets that the way forward stores.
-- Assumes nothing.
use Prim.Native.Nat.{ℕ, zero, suc, ◌+◌, ◌-◌, ◌≤◌, ◌<◌}
use mathlib.Core.Path.{◌≡◌, refl, ap, ap₂, sym, ◌∙◌}
use mathlib.Core.Logic.{◌⊎◌, inl, inr}
use mathlib.Core.List.{List, [], ◌∷◌, ◌++◌, append_assoc, append-nil}
use native.Mathlib.Decide.{le_ind}
use native.Mathlib.Nat.{add-zero}
use native.Mathlib.Omega.{arith}
use lib.ListN.{length, get_or, take, drop, replicate, get_or-append}
use Rattle.std.proofs.lemmas.Bool.{cases_lt}
use Rattle.std.proofs.lemmas.List.{take_at, drop_at, length-append, length-replicate}
use lib.Seq.{get_or-append_seam}
use Rattle.model.specs.declared.Block.{Block}
use Rattle.model.specs.DashedString.{Each, Bounded}
use Rattle.model.specs.Size.{uppers}
use Rattle.model.specs.Automaton.{Table}
use Rattle.model.specs.Passes.{segments_of, segments, after, rounds, at_most, final}
use Rattle.propagator.specs.Moves.{exactly}
use Rattle.propagator.specs.Rows.{places_of, sets_of, stored_sum, stored_by, stored}
use Rattle.propagator.proofs.Rows.{final_append, block_final}

-- ---- Q1 to Ql

-- one for each place
pub length_places : (t : Table) (S Q l : ℕ) → length (places_of t S Q l) ≡ l
unfolding places_of
length_places t S Q zero = refl
length_places t S Q (suc l) = omega (arith, length-append (places_of t S Q l) (exactly t S Q (suc l) ∷ []), length_places t S Q l)

-- the set before each of them can be read
pub places_long : (t : Table) (S Q l : ℕ) (sets : List ℕ) → sets ≡ places_of t S Q l → (j : ℕ) → j ≤ l → j ≤ length sets
places_long t S Q l sets e j h = omega (arith, ap length e, length_places t S Q l)

-- the set before place j is Qj
pub place_before : (t : Table) (S Q l j : ℕ) → j ≤ l → get_or (Q ∷ places_of t S Q l) j 0 ≡ exactly t S Q j
unfolding places_of exactly
place_before t S Q l zero h = refl
place_before t S Q zero (suc j) h = absurd (omega arith)
place_before t S Q (suc l) (suc j) h = go (λ k. place_before t S Q l (suc j) k) (cases_lt j l)
  where
    last : ℕ
    last = exactly t S Q (suc l)

    go : ((suc j ≤ l) → get_or (Q ∷ places_of t S Q l) (suc j) 0 ≡ exactly t S Q (suc j)) → (j < l) ⊎ (l ≤ j)
        → get_or (places_of t S Q l ++ last ∷ []) j 0 ≡ exactly t S Q (suc j)
    go f (inl k) =
        get_or-append (places_of t S Q l) (last ∷ []) 0 j (omega (arith, length_places t S Q l)) ∙ f (omega arith)
    go f (inr k) =
        let at : j ≡ length (places_of t S Q l) = omega (arith, length_places t S Q l) in
        let same : l ≡ j = omega arith in
        ap (λ i. get_or (places_of t S Q l ++ last ∷ []) i 0) at ∙ get_or-append_seam (places_of t S Q l) last [] 0 ∙ ap (λ i. exactly t S Q (suc i)) same

-- a set that repeats is the set of all places behind
exactly_stays : (t : Table) (S Q j : ℕ) → after t S (exactly t S Q j) ≡ exactly t S Q j → (k : ℕ) → j ≤ k → exactly t S Q k ≡ exactly t S Q j
unfolding exactly
exactly_stays t S Q j e = le_ind (λ k. exactly t S Q k ≡ exactly t S Q j) refl (λ k _ h. rw h e)

-- one copy more, at the end
pub replicate_snoc : {X : Type 0} (k : ℕ) (x : X) → replicate k x ++ x ∷ [] ≡ replicate (suc k) x
replicate_snoc zero x = refl
replicate_snoc (suc k) x = ap (◌∷◌ x) (replicate_snoc k x)

-- and so it is stored for k places more
places_stay : (t : Table) (S Q j : ℕ) → after t S (exactly t S Q j) ≡ exactly t S Q j → (k : ℕ)
    → places_of t S Q (j + k) ≡ places_of t S Q j ++ replicate k (exactly t S Q j)
unfolding places_of
places_stay t S Q j e zero = rw add-zero (sym (append-nil (places_of t S Q j)))
places_stay t S Q j e (suc k) =
    let more : j + suc k ≡ suc (j + k) = omega arith in
    let X = exactly t S Q j in
    rw more
    (ap₂ (λ ps x. ps ++ x ∷ []) (places_stay t S Q j e k) (exactly_stays t S Q j e (suc (j + k)) (omega arith))
    ∙ append_assoc (places_of t S Q j) (replicate k X) (X ∷ [])
    ∙ ap (λ xs. places_of t S Q j ++ xs) (replicate_snoc k X))

-- where j of n places are stored, and P, the last of them, repeats, P is stored for the others
pub places_filled : (t : Table) (S Q j n P : ℕ) (part : List ℕ) → P ≡ exactly t S Q j → after t S P ≡ P → j ≤ n → part ≡ replicate (n - j) P
    → (P ≡ exactly t S Q n) × (places_of t S Q j ++ part ≡ places_of t S Q n)
places_filled t S Q j n P part last e h filled =
    let stays : after t S (exactly t S Q j) ≡ exactly t S Q j = rw last at e in
    let all : n ≡ j + (n - j) = omega arith in (
      last ∙ sym (exactly_stays t S Q j stays n h),
      rw (filled, last) (sym (ap (places_of t S Q) all ∙ places_stay t S Q j stays (n - j))),
    )

-- ---- a block's sets

module _ (t : Table) (Q : ℕ) (x : Block) (h : Bounded x) where
  abbrev ps : List ℕ
  ps = places_of t x.base Q x.lower

  abbrev R : ℕ
  R = final t Q (segments_of x)

  abbrev rs : List ℕ
  rs = replicate (sets_of x - x.lower) R

  -- its places come first
  pub sets_most : (x.lower ≤ sets_of x) × (sets_of x ≤ x.lower + 1)
  sets_most = (omega arith, omega arith)

  -- they are as many as are counted
  pub length_by : length (stored_by t Q x) ≡ sets_of x
  unfolding stored_by
  length_by = omega (arith, length-append ps rs, length_places t x.base Q x.lower, length-replicate (sets_of x - x.lower) R, sets_most)

  -- those of its places
  pub front_by : take x.lower (stored_by t Q x) ≡ ps
  unfolding stored_by
  front_by = take_at ps rs x.lower (length_places t x.base Q x.lower)

  -- before the others is Ql
  pub last_by : get_or (Q ∷ stored_by t Q x) x.lower 0 ≡ exactly t x.base Q x.lower
  unfolding stored_by
  last_by = get_or-append (Q ∷ ps) rs 0 x.lower (omega (arith, length_places t x.base Q x.lower)) ∙ place_before t x.base Q x.lower x.lower (omega arith)

  -- the last of all is R
  pub end_by : get_or (Q ∷ stored_by t Q x) (sets_of x) 0 ≡ R
  unfolding stored_by rounds
  end_by = go (cases_lt x.lower x.upper)
    where
      go : (x.lower < x.upper) ⊎ (x.upper ≤ x.lower) → get_or (Q ∷ stored_by t Q x) (sets_of x) 0 ≡ R
      go (inl k) =
          let one : sets_of x - x.lower ≡ 1 = omega arith in
          let at : sets_of x ≡ length (Q ∷ ps) = omega (arith, length_places t x.base Q x.lower) in
          ap₂ (λ n i. get_or (Q ∷ ps ++ replicate n R) i 0) one at ∙ get_or-append_seam (Q ∷ ps) R [] 0
      go (inr k) =
          let all : sets_of x ≡ x.lower = omega arith in
          let none : x.upper - x.lower ≡ 0 = omega arith in
          ap (λ i. get_or (Q ∷ stored_by t Q x) i 0) all ∙ last_by ∙ sym (block_final t x Q ∙ ap (at_most t x.base (exactly t x.base Q x.lower)) none)

-- ---- all sets

-- at most the sum of the upper bounds
pub stored_uppers : (xs : List Block) → stored_sum xs ≤ uppers xs
unfolding stored_sum
stored_uppers [] = omega arith
stored_uppers (x ∷ xs) = omega (arith, stored_uppers xs)

-- of a block behind others
pub stored_snoc : (t : Table) (Q : ℕ) (xs : List Block) (x : Block)
    → stored t Q (xs ++ x ∷ []) ≡ stored t Q xs ++ stored_by t (final t Q (segments xs)) x
unfolding stored final
stored_snoc t Q [] x = append-nil (stored_by t Q x)
stored_snoc t Q (y ∷ xs) x =
    let P = final t Q (segments_of y) in
    ap (λ ss. stored_by t Q y ++ ss) (stored_snoc t P xs x ∙ ap (λ q. stored t P xs ++ stored_by t q x) (sym (final_append t Q (segments_of y) (segments xs))))
    ∙ sym (append_assoc (stored_by t Q y) (stored t P xs) (stored_by t (final t Q (segments (y ∷ xs))) x))

-- the last of two rows, one behind the other
last_append : (Q : ℕ) (xs ys : List ℕ) → get_or (Q ∷ (xs ++ ys)) (length (xs ++ ys)) 0 ≡ get_or (get_or (Q ∷ xs) (length xs) 0 ∷ ys) (length ys) 0
last_append Q [] ys = refl
last_append Q (x ∷ xs) ys = last_append x xs ys

-- the last is what stands behind all blocks
pub end_stored : (t : Table) (Q : ℕ) (xs : List Block) → Each Bounded xs → get_or (Q ∷ stored t Q xs) (length (stored t Q xs)) 0 ≡ final t Q (segments xs)
unfolding stored final
end_stored t Q [] e = refl
end_stored t Q (x ∷ xs) (h, e) =
    let P = final t Q (segments_of x) in
    last_append Q (stored_by t Q x) (stored t P xs)
    ∙ ap (λ q. get_or (q ∷ stored t P xs) (length (stored t P xs)) 0) (ap (λ i. get_or (Q ∷ stored_by t Q x) i 0) (length_by t Q x h) ∙ end_by t Q x h)
    ∙ end_stored t P xs e
    ∙ sym (final_append t Q (segments_of x) (segments xs))

-- the row is split in front of the last block's sets
module _ (t : Table) (Q : ℕ) (xs : List Block) (x : Block) (each : Each Bounded xs) (h : Bounded x) (row : List ℕ) (e : row ≡ stored t Q (xs ++ x ∷ [])) where
  abbrev P : ℕ
  P = final t Q (segments xs)

  parts : row ≡ stored t Q xs ++ stored_by t P x
  parts = e ∙ stored_snoc t Q xs x

  long : length row ≡ length (stored t Q xs) + sets_of x
  long = ap length parts ∙ length-append (stored t Q xs) (stored_by t P x) ∙ ap (λ n. length (stored t Q xs) + n) (length_by t P x h)

  seam : length (stored t Q xs) ≡ length row - sets_of x
  seam = omega (arith, long)

  pub split_fits : sets_of x ≤ length row
  split_fits = omega (arith, long)

  pub split_front : take (length row - sets_of x) row ≡ stored t Q xs
  split_front = ap (take (length row - sets_of x)) parts ∙ take_at (stored t Q xs) (stored_by t P x) (length row - sets_of x) seam

  pub split_own : drop (length row - sets_of x) row ≡ stored_by t P x
  split_own = ap (drop (length row - sets_of x)) parts ∙ drop_at (stored t Q xs) (stored_by t P x) (length row - sets_of x) seam

  pub split_first : get_or (Q ∷ row) (length row - sets_of x) 0 ≡ P
  split_first =
      ap₂ (λ n r. get_or (Q ∷ r) n 0) (sym seam) parts
      ∙ get_or-append (Q ∷ stored t Q xs) (stored_by t P x) 0 (length (stored t Q xs)) (omega arith)
      ∙ end_stored t Q xs each
