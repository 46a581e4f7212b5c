-- Step 5's loop over the places of a block, from the last to the first: the states kept, and the entries made.
-- Assumes nothing.
use Prim.Native.Nat.{ℕ, suc, ◌≤◌, ◌<◌}
use mathlib.Core.Path.{◌≡◌, sym, ap, ap₂, ◌∙◌}
use mathlib.Core.Logic.{◌⊎◌, inl, inr}
use mathlib.Core.List.{List, [], ◌∷◌, ◌++◌, append_assoc}
use native.Mathlib.Numerals.{add-one}
use Rattle.std.specs.Prelude.{Option, Some, IfSome}
use Rattle.std.proofs.lemmas.List.{drop-set}
use lib.ListN.{length, get_or, drop, set, replicate}
use Rattle.model.specs.declared.Block.{Block}
use Rattle.model.specs.DashedString.{block}
use Rattle.model.specs.Automaton.{Table}
use Rattle.model.specs.Passes.{Segment, mandatory, before, between, backward, pruned}
use Rattle.propagator.specs.declared.places.Kept.{Kept}
use Rattle.propagator.specs.Moves.{exactly}
use Rattle.propagator.specs.Rows.{kept_to, entries_to, Becomes, places_of}
use Rattle.propagator.proofs.Rows.{places_final, kept_append, entries_append}
use Rattle.propagator.proofs.Stored.{place_before, replicate_snoc}

-- a place between its own sets, where these are given by equations
pub becomes_own : (t : Table) (S Q M : ℕ) (kept : Kept) → (kept.from ≡ Q) × (kept.to ≡ M) × Becomes t S Q M kept
    → Becomes t S kept.from kept.to kept
becomes_own t S Q M kept (a, b, new) =
    record { letter = new.letter ∙ sym (ap₂ (between t S) a b); state = new.state ∙ sym (ap₂ (before t S) a b) }

-- a place between Q and M: looked at now, or between the same sets as the last one that was
pub becomes_more : (t : Table) (S Q M : ℕ) (last : Option Kept) (kept : Kept) → IfSome last (λ k. Becomes t S k.from k.to k)
    → (kept.from ≡ Q) × (kept.to ≡ M) × ((last ≡ Some kept) ⊎ Becomes t S Q M kept)
    → Becomes t S kept.from kept.to kept × Becomes t S Q M kept
becomes_more t S Q M last kept old (a, b, inl e) = let own : Becomes t S kept.from kept.to kept = rw e at old in (own, rw (← a, ← b) own)
becomes_more t S Q M last kept old (a, b, inr new) = (becomes_own t S Q M kept (a, b, new), new)

-- k places
abbrev places : ℕ → ℕ → List Segment
places S k = replicate k (mandatory S)

-- a place behind j others, where M are the states kept behind it
module _ (t : Table) (S first M j : ℕ) where
  abbrev Q : ℕ
  Q = exactly t S first j

  -- the states kept
  kept_snoc : kept_to t M first (places S (suc j)) ≡ kept_to t (before t S Q M) first (places S j)
  unfolding kept_to backward
  kept_snoc =
      ap (kept_to t M first) (sym (replicate_snoc j (mandatory S)))
      ∙ kept_append t M first (places S j) (mandatory S ∷ [])
      ∙ ap (λ q. kept_to t (before t S q M) first (places S j)) (places_final t S first j)

  -- the entries
  entries_snoc : entries_to t M first (places S (suc j)) ≡ entries_to t (before t S Q M) first (places S j) ++ block (between t S Q M) 1 1 ∷ []
  unfolding kept_to entries_to backward pruned
  entries_snoc =
      ap (entries_to t M first) (sym (replicate_snoc j (mandatory S)))
      ∙ entries_append t M first (places S j) (mandatory S ∷ [])
      ∙ ap (λ q. entries_to t (before t S q M) first (places S j) ++ block (between t S q M) 1 1 ∷ []) (places_final t S first j)

-- the places from j on are done
pub record Placing (t : Table) (S first end n : ℕ) (entries : List Block) (states j : ℕ) : Type 0 where
  pub kept : kept_to t end first (places S n) ≡ kept_to t states first (places S j)
  pub made : entries_to t end first (places S n) ≡ entries_to t states first (places S j) ++ drop j entries

module _ {t : Table} {S first end n : ℕ} {entries : List Block} {states j : ℕ} (placing : Placing t S first end n entries states j) where
  -- all places are done
  pub placing_ends : j ≡ 0 → (states ≡ kept_to t end first (places S n)) × (entries ≡ entries_to t end first (places S n))
  unfolding kept_to entries_to
  placing_ends none = (sym (rw none at placing.kept), sym (rw none at placing.made))

  -- one place more, whose set before it is Q
  pub placing_more : {i P : ℕ} {kept : Kept} {sets : List ℕ} → j ≡ suc i → i < length entries → i ≤ n → sets ≡ places_of t S first n
      → P ≡ get_or (first ∷ sets) i 0 → Becomes t S P states kept
      → Placing t S first end n (set entries i (block kept.letters 1 1)) kept.states i
  placing_more {i} {P} {kept} {sets} e h few stored q place =
      let old : Placing t S first end n entries states (suc i) = rw e at placing in
      let here : P ≡ exactly t S first i = q ∙ ap (λ s. get_or (first ∷ s) i 0) stored ∙ place_before t S first n i few in
      let done : Becomes t S (exactly t S first i) states kept = rw here at place in
      let x = block kept.letters 1 1 in
      record {
        kept = old.kept ∙ kept_snoc t S first states i ∙ ap (λ s. kept_to t s first (places S i)) (sym done.state);
        made =
            old.made
            ∙ ap (λ l. l ++ drop (suc i) entries) (entries_snoc t S first states i)
            ∙ append_assoc (entries_to t (before t S (exactly t S first i) states) first (places S i)) (block (between t S (exactly t S first i) states) 1 1 ∷ [])
            (drop (suc i) entries)
            ∙ ap₂ (λ s l. entries_to t s first (places S i) ++ l) (sym done.state)
            (ap₂ (λ l n. block l 1 1 ∷ drop n entries) (sym done.letter) (sym (add-one i)) ∙ sym (drop-set entries i x h));
      }
