-- One segment: the states behind it, the states kept before it, and what it becomes, by the pieces that it spells.
-- Assumes nothing.
use Rattle.std.proofs.Common.{◌≡◌, ℕ, zero, suc, ◌+◌, ◌^◌, ◌<◌, ◌≤◌, ◌↔◌, List, [], ◌∷◌, length, get_or, refl, zero-le, arith, drop_of_length-le}
use Rattle.std.proofs.lemmas.Grind.{common_steps}
use Rattle.model.specs.declared.Block.{Block}
use Rattle.model.specs.Set.{Member, both}
use Rattle.model.specs.DashedString.{block, Bounded, Within, nil, cons, Piece}
use Rattle.model.specs.Automaton.{Table, next, run}
use Rattle.model.specs.Passes.{Segment, mandatory, optional, after, between, rounds, at_most, to_end, forward, backward, pruned}
use Rattle.model.proofs.Set.{in_none, in_both}
use Rattle.model.proofs.Words.{within_mono}
use Rattle.model.proofs.Steps.{rounds_mono, fewest_end, fewest_least, between_within, between_bytes, in_after, in_before, in_between, in_at_most, in_to_end, round, led}

-- what a segment spells is what this block spells
abbrev pub as_block : Segment → Block
as_block (mandatory S) = block S 1 1
as_block (optional S w) = block S 0 w

-- a piece of a mandatory place is one letter
pub one_letter : {S : ℕ} {p : List ℕ} → Piece (block S 1 1) p → (c : ℕ) × Member c S × (p ≡ c ∷ [])
one_letter = grind (arith, common_steps)

-- and one letter of S is a piece of it
pub letter_piece : {S c : ℕ} → Member c S → Piece (block S 1 1) (c ∷ [])
letter_piece n = record { within = cons n nil; enough = omega arith; few = omega arith }

-- ---- what a segment becomes is less than the segment

-- y narrows x: no new letter, no smaller lower and the same upper bound; and y is a block of a record, with l ≤ u
pub record Narrows (x y : Block) : Type 0 where
  pub within : (c : ℕ) → Member c y.base → Member c x.base
  pub bytes : y.base < 2 ^ 64
  pub lower : x.lower ≤ y.lower
  pub upper : y.upper ≡ x.upper
  pub bounds : Bounded y

-- what a segment becomes narrows it
pub pruned_narrows : (t : Table) (Q : ℕ) (s : Segment) (E : ℕ) → Narrows (as_block s) (pruned t Q s E)
unfolding pruned
pruned_narrows = grind (arith, between_within, between_bytes, fewest_end, in_none)

-- what narrows a block spells nothing that the block does not
pub narrows_adds : {x y : Block} {p : List ℕ} → Narrows x y → Piece y p → Piece x p
narrows_adds n g = record { within = within_mono n.within g.within; enough = omega arith; few = omega arith }

-- ---- the laws of a segment

-- a way over a segment: a piece that has the property leads from a state of Q to a state of E
abbrev pub Over : Table → ℕ → Segment → ℕ → (List ℕ → Type 0) → Type 0
Over t Q s E P = (q : ℕ) × Member q Q × (p : List ℕ) × Piece (as_block s) p × Member (run t q p) E × P p

module _ (t : Table) (fits : t.states < 64) where
  -- a state is behind a segment exactly when a piece of it leads there from a state before it
  pub in_forward : (Q : ℕ) (s : Segment) {r : ℕ} → Member r (forward t Q s)
      ↔ ((q : ℕ) × Member q Q × (p : List ℕ) × Piece (as_block s) p × (run t q p ≡ r))
  unfolding forward
  in_forward Q (mandatory S) = (
    λ h. let (q, m, c, n, e) = (in_after t fits S Q).0 h in (q, m, c ∷ [], letter_piece n, e),
    λ (q, m, p, g, e). let (c, n, d) = one_letter g in (in_after t fits S Q).1 (q, m, c, n, rw d at e),
  )
  in_forward Q (optional S w) = (
    λ h. let (q, m, p, g, l, e) = (in_at_most t fits S Q w).0 h in (q, m, p, record { within = g; enough = zero-le; few = l }, e),
    λ (q, m, p, g, e). (in_at_most t fits S Q w).1 (q, m, p, g.within, g.few, e),
  )

  -- a state is kept before a segment exactly when it is possible there and a piece leads from it to a state kept behind
  pub in_backward : (Q : ℕ) (s : Segment) (E : ℕ) {q : ℕ} → Member q (backward t Q s E)
      ↔ (Member q Q × (p : List ℕ) × Piece (as_block s) p × Member (run t q p) E)
  unfolding backward rounds
  in_backward Q (mandatory S) E = (
    λ h. let (m, c, n, e) = (in_before t fits S Q E).0 h in (m, c ∷ [], letter_piece n, e),
    λ (m, p, g, e). let (c, n, d) = one_letter g in (in_before t fits S Q E).1 (m, c, n, rw d at e),
  )
  in_backward Q (optional S w) E =
      let R = at_most t S Q w in
      let M = to_end t S R E w in (
        λ h. let (m, k) = (in_both Q M).0 h in let (p, n, l, _, e) = (in_to_end t fits S R E w).0 k in (m, p, grind arith, e),
        λ (m, p, g, e). (in_both Q M).1 (m, (in_to_end t fits S R E w).1 (led t fits S Q E w 0 w m g.within e (omega (arith, g.few)) g.few)),
      )

  -- the letters of a word that leads from a state of the j-th round to E stay in the optional part
  within_between : (S Q E v j : ℕ) {q : ℕ} {p : List ℕ} → Member q (at_most t S Q j) → Within S p → Member (run t q p) E → j + length p ≤ suc v
      → Within (between t S (at_most t S Q (suc v)) (both (at_most t S Q (suc v)) (to_end t S (at_most t S Q (suc v)) E v))) p
  within_between S Q E v j m nil e l = nil
  within_between S Q E v j {q} m (cons {c} n h) e l =
      let R = at_most t S Q (suc v) in
      let m' = round t fits S Q j m n in
      let q-in : Member q R = rounds_mono (after t S) Q j (suc v) (omega arith) m in
      let next-in : Member (next t q c) R = rounds_mono (after t S) Q (suc j) (suc v) (omega arith) m' in
      let level = (in_to_end t fits S R E v).1 (led t fits S Q E (suc v) (suc j) v m' h e (omega arith) (omega arith)) in
      cons (grind (arith, in_between, in_both)) (within_between S Q E v (suc j) m' h e (omega arith))

  -- a piece on a way from before the segment to what is kept behind it is spelled by what the segment becomes
  pub pruned_keeps : (Q : ℕ) (s : Segment) (E : ℕ) {q : ℕ} {p : List ℕ} → Member q Q → Piece (as_block s) p → Member (run t q p) E
      → Piece (pruned t Q s E) p
  unfolding pruned rounds
  pruned_keeps Q (mandatory S) E m g e = grind (arith, one_letter, letter_piece, in_between)
  pruned_keeps Q (optional S zero) E {p = p} m g e =
      record { within = rw (drop_of_length-le p {i = 0} g.few) nil; enough = zero-le; few = g.few }
  pruned_keeps Q (optional S (suc v)) E {q} {p} m g e =
      let R = at_most t S Q (suc v) in
      let short = led t fits S Q E (suc v) 0 (length p) m g.within e (omega (arith, g.few)) (omega arith) in
      record {
        within = within_between S Q E v 0 m g.within e (omega (arith, g.few));
        enough = fewest_least t fits S R E Q (suc v) (length p) m short;
        few = g.few;
      }

  -- a letter stays in a mandatory place exactly when a way over the place has it
  pub pruned_exact : (S Q E : ℕ) {c : ℕ} → Member c (pruned t Q (mandatory S) E).base ↔ Over t Q (mandatory S) E (λ p. get_or p 0 64 ≡ c)
  unfolding pruned
  pruned_exact S Q E {c} = (
    λ h. let (n, q, m, e) = (in_between t fits S Q E).0 h in (q, m, c ∷ [], letter_piece n, e, refl),
    λ (q, m, p, g, e, x). let (_, n, d) = one_letter g in rw (rw d at x) at ((in_between t fits S Q E).1 (n, q, m, rw d at e)),
  )
