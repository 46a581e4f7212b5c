-- Rows of segments, block by block: the states before each, and the states kept.
-- Assumes nothing.
use Prim.Native.Nat.{ℕ, zero, suc, ◌+◌, ◌-◌, ◌^◌, ◌≤◌, ◌<◌}
use mathlib.Core.Path.{◌≡◌, refl, ap, sym, ◌∙◌}
use mathlib.Core.List.{List, [], ◌∷◌, ◌++◌, append_assoc, append-nil}
use native.Mathlib.Omega.{arith}
use lib.ListN.{length, get_or, replicate}
use Rattle.model.specs.declared.Block.{Block}
use Rattle.model.specs.Set.{has, Member, both, some_member}
use Rattle.model.specs.DashedString.{Each, Bounded}
use Rattle.model.specs.Size.{uppers, WellFormed, Room, lower_sum}
use Rattle.model.specs.Automaton.{Table, Dfa, next}
use Rattle.model.specs.Passes.{Segment, mandatory, optional, segments_of, segments, after, at_most, to_end, forward, backward, before, pruned, final, kept, entries, finals, narrowed_list}
use Rattle.model.proofs.Set.{in_both, in_members}
use Rattle.records.proofs.Checks.{each_map}
use Rattle.propagator.specs.Moves.{exactly}
use Rattle.propagator.specs.Rows.{kept_to, entries_to, Inside}

-- what each block has, block i has
pub each_get : (P : Block → Type 0) (xs : List Block) → Each P xs → (i : ℕ) (d : Block) → i < length xs → P (get_or xs i d)
each_get P [] e i d h = absurd (omega arith)
each_get P (x ∷ xs) e zero d h = e.0
each_get P (x ∷ xs) e (suc i) d h = each_get P xs e.1 i d (omega arith)

-- ---- sums of lower bounds

-- of two lists one behind the other
sum_append : (xs ys : List Block) → lower_sum (xs ++ ys) ≡ lower_sum xs + lower_sum ys
unfolding lower_sum
sum_append [] ys = omega arith
sum_append (x ∷ xs) ys = omega (arith, sum_append xs ys)

-- of one block more
pub sum_snoc : (xs : List Block) (x : Block) → lower_sum (xs ++ x ∷ []) ≡ lower_sum xs + x.lower
unfolding lower_sum
sum_snoc xs x = omega (arith, sum_append xs (x ∷ []))

-- at most that of the upper bounds
pub sum_uppers : (xs : List Block) → Each Bounded xs → lower_sum xs ≤ uppers xs
unfolding lower_sum
sum_uppers [] e = omega arith
sum_uppers (x ∷ xs) (h, e) = omega (arith, sum_uppers xs e)

-- and so at most 1,024
pub sum_small : (m : ℕ) (xs : List Block) → Room m xs → lower_sum xs ≤ 1024
sum_small m xs r = omega (arith, sum_uppers xs (each_map (WellFormed m) Bounded (λ x f. f.bounds) xs r.each), r.sum)

-- ---- the states before each block

-- behind two rows, one behind the other
pub final_append : (t : Table) (Q : ℕ) (ss rs : List Segment) → final t Q (ss ++ rs) ≡ final t (final t Q ss) rs
unfolding final
final_append t Q [] rs = refl
final_append t Q (s ∷ ss) rs = final_append t (forward t Q s) ss rs

-- the segments of two lists of blocks, one behind the other
segments_append : (xs ys : List Block) → segments (xs ++ ys) ≡ segments xs ++ segments ys
segments_append [] ys = refl
segments_append (x ∷ xs) ys =
    ap (λ rs. segments_of x ++ rs) (segments_append xs ys) ∙ sym (append_assoc (segments_of x) (segments xs) (segments ys))

-- one letter first, or last
exactly_shift : (t : Table) (S Q j : ℕ) → exactly t S (after t S Q) j ≡ after t S (exactly t S Q j)
unfolding exactly
exactly_shift t S Q zero = refl
exactly_shift t S Q (suc j) = ap (after t S) (exactly_shift t S Q j)

-- behind j places
pub places_final : (t : Table) (S Q j : ℕ) → final t Q (replicate j (mandatory S)) ≡ exactly t S Q j
unfolding final forward exactly
places_final t S Q zero = refl
places_final t S Q (suc j) = places_final t S (after t S Q) j ∙ exactly_shift t S Q j

-- behind a block
pub block_final : (t : Table) (x : Block) (Q : ℕ)
    → final t Q (segments_of x) ≡ at_most t x.base (exactly t x.base Q x.lower) (x.upper - x.lower)
unfolding final forward
block_final t x Q =
    rw (final_append t Q (replicate x.lower (mandatory x.base)) (optional x.base (x.upper - x.lower) ∷ []), places_final t x.base Q x.lower)

-- behind one block more
pub final_snoc : (t : Table) (Q : ℕ) (xs : List Block) (x : Block) → final t Q (segments (xs ++ x ∷ [])) ≡ final t (final t Q (segments xs)) (segments_of x)
final_snoc t Q xs x =
    ap (final t Q) (segments_append xs (x ∷ []))
    ∙ final_append t Q (segments xs) (segments_of x ++ [])
    ∙ ap (final t (final t Q (segments xs))) (append-nil (segments_of x))

-- ---- the states kept

-- over two rows
pub kept_append : (t : Table) (E Q : ℕ) (ss rs : List Segment) → kept_to t E Q (ss ++ rs) ≡ kept_to t (kept_to t E (final t Q ss) rs) Q ss
unfolding kept_to final
kept_append t E Q [] rs = refl
kept_append t E Q (s ∷ ss) rs = ap (backward t Q s) (kept_append t E (forward t Q s) ss rs)

-- what two rows become
pub entries_append : (t : Table) (E Q : ℕ) (ss rs : List Segment)
    → entries_to t E Q (ss ++ rs) ≡ entries_to t (kept_to t E (final t Q ss) rs) Q ss ++ entries_to t E (final t Q ss) rs
unfolding entries_to final
entries_append t E Q [] rs = refl
entries_append t E Q (s ∷ ss) rs = rw (kept_append t E (forward t Q s) ss rs, entries_append t E (forward t Q s) ss rs)

-- the states kept before a segment are among those possible there
backward_inside : (t : Table) (Q : ℕ) (s : Segment) (E : ℕ) {q : ℕ} → Member q (backward t Q s E) → Member q Q
unfolding backward before
backward_inside t Q (mandatory S) E h = ((in_members Q (λ q. some_member S (λ c. has E (next t q c)))).0 h).0
backward_inside t Q (optional S w) E h = ((in_both Q (to_end t S (at_most t S Q w) E w)).0 h).0

-- and so before a row
pub kept_inside : (t : Table) (E Q : ℕ) (ss : List Segment) → Inside E (final t Q ss) → Inside (kept_to t E Q ss) Q
unfolding kept_to final
kept_inside t E Q [] h q m = h q m
kept_inside t E Q (s ∷ ss) h q m = backward_inside t Q s (kept_to t E (forward t Q s) ss) m

-- behind the whole row the accepting states are kept
kept_whole : (b : Dfa) (Q : ℕ) (ss : List Segment) → kept b Q ss ≡ kept_to b.table (both (final b.table Q ss) b.accepting) Q ss
unfolding kept kept_to final
kept_whole b Q [] = refl
kept_whole b Q (s ∷ ss) = ap (backward b.table Q s) (kept_whole b (forward b.table Q s) ss)

entries_whole : (b : Dfa) (Q : ℕ) (ss : List Segment) → entries b Q ss ≡ entries_to b.table (both (final b.table Q ss) b.accepting) Q ss
unfolding entries entries_to final
entries_whole b Q [] = refl
entries_whole b Q (s ∷ ss) = rw (kept_whole b (forward b.table Q s) ss, entries_whole b (forward b.table Q s) ss)

-- the narrowed list
pub list_whole : (b : Dfa) (xs : List Block)
    → narrowed_list b xs ≡ entries_to b.table (both (finals b xs) b.accepting) (2 ^ b.start) (segments xs)
unfolding narrowed_list finals
list_whole b xs = entries_whole b (2 ^ b.start) (segments xs)

-- ---- one block of the row

module _ (t : Table) (E Q : ℕ) (x : Block) where
  -- Ql, and the states kept there
  abbrev last : ℕ
  last = exactly t x.base Q x.lower

  abbrev rest : Segment
  rest = optional x.base (x.upper - x.lower)

  -- the states kept before the block: those before its places, behind which stand those kept before its optional part
  pub block_kept : kept_to t E Q (segments_of x) ≡ kept_to t (backward t last rest E) Q (replicate x.lower (mandatory x.base))
  unfolding kept_to
  block_kept = rw (kept_append t E Q (replicate x.lower (mandatory x.base)) (rest ∷ []), places_final t x.base Q x.lower)

  -- what the block becomes: its places, and its optional part
  pub block_entries : entries_to t E Q (segments_of x)
      ≡ entries_to t (backward t last rest E) Q (replicate x.lower (mandatory x.base)) ++ pruned t last rest E ∷ []
  unfolding kept_to entries_to
  block_entries = rw (entries_append t E Q (replicate x.lower (mandatory x.base)) (rest ∷ []), places_final t x.base Q x.lower)

-- what blocks become, and one block behind them
pub entries_snoc : (t : Table) (E Q : ℕ) (xs : List Block) (x : Block) → let P = final t Q (segments xs) in
    entries_to t E Q (segments (xs ++ x ∷ [])) ≡ entries_to t (kept_to t E P (segments_of x)) Q (segments xs) ++ entries_to t E P (segments_of x)
entries_snoc t E Q xs x =
    ap (entries_to t E Q) (segments_append xs (x ∷ []) ∙ ap (λ ss. segments xs ++ ss) (append-nil (segments_of x)))
    ∙ entries_append t E Q (segments xs) (segments_of x)
