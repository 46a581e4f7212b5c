-- Demand 3 holds of the definitions: for every book and mask that pass the checks, one theorem.
-- Assumes nothing.
use Rattle.std.proofs.lemmas.Grind.{common_steps}
use Rattle.std.proofs.Common.{◌≡◌, ℕ, suc, ◌+◌, ◌^◌, ◌<◌, Bool, not, T, ◌⊎◌, ◌↔◌, List, [], length, get_or, sym, refl, ap, ⊎_elim, arith, T_not}
use mathlib.Core.List.{flatten}
use lib.Dec.{not_T}
use Rattle.model.specs.declared.Block.{Block}
use Rattle.model.specs.declared.Verdict.{Verdict}
use Rattle.model.specs.declared.Verdict.TheVariants.{None, All}
use Rattle.model.specs.Set.{has, Member}
use Rattle.model.specs.DashedString.{block, block_at, Matches}
use Rattle.model.specs.Automaton.{Dfa, run, Accepts}
use Rattle.model.specs.Legal.{Legal, Checked}
use Rattle.model.specs.Passes.{segments, finals, narrowed_list}
use Rattle.model.specs.NormalForm.{normal}
use Rattle.model.specs.Verdict.{narrowed_mask, some_legal, some_illegal, verdict}
use Rattle.model.specs.Place.{begins, entry_of, place}
use Rattle.model.specs.Demand3.{Has, Puts, listed, Demand3}
use Rattle.model.proofs.Set.{member, in_none, in_one, some_member_lem}
use Rattle.model.proofs.Segment.{pruned_exact}
use Rattle.model.proofs.Segments.{final_in, final_out, entries_keep, all_narrow, narrow_length, narrow_adds}
use Rattle.model.proofs.Cut.{segments_spell}
use Rattle.model.proofs.Entry.{along_letter, place_segment, start_in, seen_at}
use Rattle.model.proofs.Listed.{listed_whole}
use Rattle.model.proofs.NormalForm.{normal_spells}
use Rattle.model.proofs.Room.{narrow_bounded}

-- a verdict is none or it is not
pub none_or_not : (v : Verdict) → (v ≡ None) ⊎ (¬ (v ≡ None))
none_or_not = grind arith

-- what is not refuted by a test holds of it
pub stable : (v : Bool) → ¬ (¬ T v) → T v
stable = grind arith

module _ (b : Dfa) (xs : List Block) (ok : Checked b xs) where
  -- ---- the verdict

  -- the final states are those to which the codes of the mask lead
  in_finals : {r : ℕ} → Member r (finals b xs) ↔ ((w : List ℕ) × Matches xs w × (run b.table b.start w ≡ r))
  unfolding finals
  in_finals = (
    λ h.
        let (q, m, qs, f, e) = final_in b ok.states (2 ^ b.start) (segments xs) h in
        (flatten qs, (segments_spell xs ok.bounds (flatten qs)).0 (qs, f, refl), rw (in_one m) at e),
    λ (w, s, e).
        let (qs, f, d) = (segments_spell xs ok.bounds w).1 s in
        rw (d, e) at (final_out b ok.states (2 ^ b.start) (segments xs) (start_in b xs ok) f),
  )

  -- E is not empty exactly when some code is legal
  some_legal_lem : T (some_legal b xs) ↔ ((w : List ℕ) × Legal b xs w)
  unfolding some_legal
  some_legal_lem = grind (arith, some_member_lem, in_finals)

  -- a final state does not accept exactly when some code is not legal
  some_illegal_lem : T (some_illegal b xs) ↔ ((w : List ℕ) × Matches xs w × ¬ Accepts b w)
  unfolding some_illegal
  some_illegal_lem = (
    λ h.
        let (r, m, n) = (some_member_lem (finals b xs) (λ q. not (has b.accepting q))).0 h in
        let (w, s, e) = in_finals.0 m in
        (w, s, λ a. T_not (has b.accepting r) n (rw e at a.there)),
    λ (w, s, n).
        let q = run b.table b.start w in
        let m = in_finals.1 (w, s, refl) in
        (some_member_lem (finals b xs) (λ q. not (has b.accepting q))).1 (q, m, not_T (has b.accepting q) (λ a. n (member m.small a))),
  )

  -- none exactly when no code is legal
  none_exact : (verdict b xs ≡ None) ↔ ((w : List ℕ) → ¬ Legal b xs w)
  unfolding verdict
  none_exact = grind (arith, common_steps, some_legal_lem)

  -- where no code is illegal, each is accepted
  accepted : ¬ T (some_illegal b xs) → (w : List ℕ) → Matches xs w → Accepts b w
  accepted = grind (arith, in_finals, some_illegal_lem, stable)

  -- all exactly when there is a code and all are legal
  all_exact : (verdict b xs ≡ All) ↔ (((w : List ℕ) × Matches xs w) × ((w : List ℕ) → Matches xs w → Legal b xs w))
  unfolding verdict
  all_exact = grind (arith, common_steps, some_legal_lem, some_illegal_lem, accepted)

  -- ---- the narrowed mask

  -- the narrowed mask spells what the narrowed list spells
  mask_spells : (w : List ℕ) → Matches (narrowed_mask b xs) w ↔ Matches (narrowed_list b xs) w
  unfolding narrowed_mask narrowed_list
  mask_spells = normal_spells (narrowed_list b xs) (narrow_bounded (all_narrow b (2 ^ b.start) (segments xs)))

  -- every legal code is still spelled
  keeps : (w : List ℕ) → Legal b xs w → Matches (narrowed_mask b xs) w
  unfolding narrowed_list
  keeps w (s, a) =
      let (qs, f, e) = (segments_spell xs ok.bounds w).1 s in
      (mask_spells w).1 (qs, entries_keep b ok.states (2 ^ b.start) (segments xs) (start_in b xs ok) f (rw e a), e)

  -- nothing new is spelled
  adds : (w : List ℕ) → Matches (narrowed_mask b xs) w → Matches xs w
  unfolding narrowed_list
  adds w h =
      let (qs, f, e) = (mask_spells w).0 h in
      (segments_spell xs ok.bounds w).0 (qs, narrow_adds (all_narrow b (2 ^ b.start) (segments xs)) f, e)

  -- ---- the mandatory places

  -- the entry of a place has exactly the letters that the legal codes have there
  entry_exact : (i j c : ℕ) → i < length xs → j < (block_at xs i).lower
      → Member c (get_or (narrowed_list b xs) (begins xs i + j) (block 0 0 0)).base ↔ Has b xs (Puts c i j)
  entry_exact i j c h l =
      let x = block_at xs i in
      let s = seen_at b xs ok i j h (omega arith) in
      let (letter, back) = pruned_exact b.table ok.states x.base s.from s.to {c = c} in
      let (there, way) = rw (place_segment x j l) at (s.ways (λ p. get_or p 0 64 ≡ c)) in
      rw (s.entry, place_segment x j l) (
        λ m. let (ps, f, a, e) = there (letter m) in (ps, f, a, rw (along_letter x.lower j (get_or ps i []) l) at e),
        λ (ps, f, a, e). back (way (ps, f, a, rw (along_letter x.lower j (get_or ps i []) l) e)),
      )

  -- where the verdict is not none, place returns the entry
  shown : ¬ (verdict b xs ≡ None) → (i j : ℕ) → place b xs (suc i) j ≡ get_or (narrowed_list b xs) (entry_of xs i j) (block 0 0 0)
  unfolding place
  shown = grind (arith, common_steps)

  -- for none it returns the empty set and 0, 0
  hidden : verdict b xs ≡ None → (i j : ℕ) → place b xs i j ≡ block 0 0 0
  unfolding place
  hidden e i j = rw e

  -- the set that place returns has those letters; for none it is empty, and no code is legal
  places : (i j c : ℕ) → i < length xs → j < (block_at xs i).lower → Member c (place b xs (suc i) (suc j)).base ↔ Has b xs (Puts c i j)
  places i j c h l =
      let Exact : Type 0 = Member c (place b xs (suc i) (suc j)).base ↔ Has b xs (Puts c i j) in
      let empty : verdict b xs ≡ None → Exact
      = λ e. (λ m. absurd (in_none (rw (hidden e) at m)), λ (ps, f, a, _). absurd (none_exact.0 e (flatten ps) ((ps, f, refl), a))) in
      ⊎_elim empty (λ n. rw (shown n) (entry_exact i j c h l)) (none_or_not (verdict b xs))

  -- the narrowed mask is the normal form of the list that place shows
  mask : ¬ (verdict b xs ≡ None) → narrowed_mask b xs ≡ normal (listed (place b xs) xs)
  unfolding narrowed_mask narrowed_list
  mask h = ap normal (sym (listed_whole (place b xs) xs (narrowed_list b xs) (narrow_length (all_narrow b (2 ^ b.start) (segments xs))) (shown h)))

-- for every book and mask that pass the checks: the verdict, the narrowed mask and the sets that place returns are as demand 3 says
pub demand_3 : (b : Dfa) (xs : List Block) → Checked b xs → Demand3 b xs (verdict b xs) (narrowed_mask b xs) (place b xs)
demand_3 b xs ok =
    record {
      none = none_exact b xs ok;
      all = all_exact b xs ok;
      keeps = keeps b xs ok;
      adds = λ _. adds b xs ok;
      places = places b xs ok;
      mask = mask b xs ok;
    }
