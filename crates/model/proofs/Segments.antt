-- All segments: each pass by the pieces along the row, by inductions that use only the laws of one segment; and `seen`,
-- from which every claim about one entry follows.
-- Assumes nothing.
use Rattle.std.proofs.Common.{◌≡◌, ℕ, zero, suc, ◌<◌, ◌↔◌, List, [], ◌∷◌, map, length, get_or, refl, ap, arith}
use mathlib.Core.List.{flatten}
use Rattle.model.specs.declared.Block.{Block}
use Rattle.model.specs.Set.{Member}
use Rattle.model.specs.DashedString.{block, Piece, Factorization, done, then}
use Rattle.model.specs.Automaton.{Dfa, run}
use Rattle.model.specs.Passes.{Segment, optional, forward, pruned, final, kept, entries}
use Rattle.model.proofs.Set.{in_both}
use Rattle.model.proofs.Words.{run_append}
use Rattle.model.proofs.Segment.{as_block, Narrows, pruned_narrows, narrows_adds, Over, in_forward, in_backward, pruned_keeps}

-- one piece for each segment, in order
abbrev pub Parts : List Segment → List (List ℕ) → Type 0
Parts ss ps = Factorization (map as_block ss) ps

-- ---- each entry narrows its segment

-- ys has one block for each segment, which narrows it
pub data AllNarrow : List Segment → List Block → Type 0 where
  none : AllNarrow [] []
  more : {s : Segment} {ss : List Segment} {y : Block} {ys : List Block} → Narrows (as_block s) y → AllNarrow ss ys → AllNarrow (s ∷ ss) (y ∷ ys)

-- and so have the entries
pub all_narrow : (b : Dfa) (Q : ℕ) (ss : List Segment) → AllNarrow ss (entries b Q ss)
unfolding entries
all_narrow b Q [] = none
all_narrow b Q (s ∷ ss) = let P = forward b.table Q s in more (pruned_narrows b.table Q s (kept b P ss)) (all_narrow b P ss)

-- there are as many as segments
pub narrow_length : {ss : List Segment} {ys : List Block} → AllNarrow ss ys → length ys ≡ length ss
narrow_length none = refl
narrow_length (more n r) = ap suc (narrow_length r)

-- and nothing new is spelled
pub narrow_adds : {ss : List Segment} {ys : List Block} {ps : List (List ℕ)} → AllNarrow ss ys → Factorization ys ps → Parts ss ps
narrow_adds none done = done
narrow_adds (more n r) (then g f) = then (narrows_adds n g) (narrow_adds r f)

-- ---- the ways ahead

-- pieces along the segments that have the property lead from q to an accepting state
abbrev pub Ahead : Dfa → ℕ → List Segment → (List (List ℕ) → Type 0) → Type 0
Ahead b q ss P = (ps : List (List ℕ)) × Parts ss ps × Member (run b.table q (flatten ps)) b.accepting × P ps

module _ (b : Dfa) (q : ℕ) (P : List (List ℕ) → Type 0) where
  -- behind the last segment, where q accepts
  ahead_nil : Ahead b q [] P ↔ (Member q b.accepting × P [])
  unfolding flatten
  ahead_nil = (λ (ps, f, e, x). go f e x, λ (e, x). ([], done, e, x))
    where
      go : {ps : List (List ℕ)} → Parts [] ps → Member (run b.table q (flatten ps)) b.accepting → P ps → Member q b.accepting × P []
      go done e x = (e, x)

  -- before a segment, over a piece of it and on from there
  ahead_cons : (s : Segment) (ss : List Segment) → Ahead b q (s ∷ ss) P
      ↔ ((p : List ℕ) × Piece (as_block s) p × Ahead b (run b.table q p) ss (λ ps. P (p ∷ ps)))
  unfolding flatten
  ahead_cons s ss = (λ (ps, f, e, x). go f e x, λ (p, g, (ps, f, e, x)). (p ∷ ps, then g f, rw run_append e, x))
    where
      go : {ps : List (List ℕ)} → Parts (s ∷ ss) ps → Member (run b.table q (flatten ps)) b.accepting → P ps
          → (p : List ℕ) × Piece (as_block s) p × Ahead b (run b.table q p) ss (λ ps. P (p ∷ ps))
      go (then {p} {ps} g f) e x = (p, g, (ps, f, rw run_append at e, x))

-- ---- the passes over the row

module _ (b : Dfa) (fits : b.table.states < 64) where
  -- a piece leads from a state before the segment to one behind it
  behind : (Q : ℕ) (s : Segment) {q : ℕ} {p : List ℕ} → Member q Q → Piece (as_block s) p → Member (run b.table q p) (forward b.table Q s)
  behind Q s {q} {p} m g = (in_forward b.table fits Q s).1 (q, m, p, g, refl)

  -- to a state possible at the end pieces lead
  pub final_in : (Q : ℕ) (ss : List Segment) {r : ℕ} → Member r (final b.table Q ss)
      → (q : ℕ) × Member q Q × (ps : List (List ℕ)) × Parts ss ps × (run b.table q (flatten ps) ≡ r)
  unfolding final flatten
  final_in Q [] {r} h = (r, h, [], done, refl)
  final_in Q (s ∷ ss) {r} h =
      let (q', m', ps, f, e') = final_in (forward b.table Q s) ss {r = r} h in
      let (q, m, p, g, e) = (in_forward b.table fits Q s).0 m' in
      (q, m, p ∷ ps, then g f, rw (run_append b.table q p (flatten ps), e) e')

  -- and where pieces lead is a state possible at the end
  pub final_out : (Q : ℕ) (ss : List Segment) {q : ℕ} {ps : List (List ℕ)} → Member q Q → Parts ss ps
      → Member (run b.table q (flatten ps)) (final b.table Q ss)
  unfolding final flatten
  final_out Q [] m done = m
  final_out Q (s ∷ ss) m (then g f) = rw run_append (final_out (forward b.table Q s) ss (behind Q s m g) f)

  -- a state is kept exactly when it is possible and there is a way ahead
  in_kept : (Q : ℕ) (ss : List Segment) {q : ℕ} → Member q (kept b Q ss) ↔ (Member q Q × Ahead b q ss (λ ps. Unit {0}))
  unfolding kept
  in_kept Q [] {q} = (
    λ h. let (m, e) = (in_both Q b.accepting).0 h in (m, (ahead_nil b q _).1 (e, tt)),
    λ (m, a). (in_both Q b.accepting).1 (m, ((ahead_nil b q _).0 a).0),
  )
  in_kept Q (s ∷ ss) {q} =
      let P = forward b.table Q s in (
        λ h.
            let (m, p, g, k) = (in_backward b.table fits Q s (kept b P ss)).0 h in
            (m, (ahead_cons b q _ s ss).1 (p, g, ((in_kept P ss).0 k).1)),
        λ (m, a).
            let (p, g, r) = (ahead_cons b q _ s ss).0 a in
            (in_backward b.table fits Q s (kept b P ss)).1 (m, p, g, (in_kept P ss).1 (behind Q s m g, r)),
      )

  -- pieces that lead to an accepting state are still spelled
  pub entries_keep : (Q : ℕ) (ss : List Segment) {q : ℕ} {ps : List (List ℕ)} → Member q Q → Parts ss ps
      → Member (run b.table q (flatten ps)) b.accepting → Factorization (entries b Q ss) ps
  unfolding entries flatten
  entries_keep Q [] m done e = done
  entries_keep Q (s ∷ ss) m (then {p} {ps} g f) e =
      let P = forward b.table Q s in
      let m' = behind Q s m g in
      let e' = rw run_append at e in
      then (pruned_keeps b.table fits Q s (kept b P ss) m g ((in_kept P ss).1 (m', (ps, f, e', tt)))) (entries_keep P ss m' f e')

  -- ---- one entry

  -- what entry k is: its segment pruned between two sets of states, between which a way with a property leads over the
  -- segment exactly when pieces along the whole row, the k-th with that property, lead from Q to an accepting state
  pub record Seen (Q : ℕ) (ss : List Segment) (k : ℕ) : Type 1 where
    pub from : ℕ
    pub to : ℕ
    pub entry : get_or (entries b Q ss) k (block 0 0 0) ≡ pruned b.table from (get_or ss k (optional 0 0)) to
    pub ways : (P : List ℕ → Type 0) → Over b.table from (get_or ss k (optional 0 0)) to P
        ↔ ((q : ℕ) × Member q Q × Ahead b q ss (λ ps. P (get_or ps k [])))

  -- it is so of every entry
  pub seen : (Q : ℕ) (ss : List Segment) (k : ℕ) → k < length ss → Seen Q ss k
  unfolding entries
  seen Q [] k l = absurd (omega arith)
  seen Q (s ∷ ss) zero l =
      let P = forward b.table Q s in
      record {
        from = Q;
        to = kept b P ss;
        entry = refl;
        ways = λ X. (
          λ (q, m, p, g, k, x). let (ps, f, e, _) = ((in_kept P ss).0 k).1 in (q, m, (ahead_cons b q _ s ss).1 (p, g, (ps, f, e, x))),
          λ (q, m, a). let (p, g, (ps, f, e, x)) = (ahead_cons b q _ s ss).0 a in (q, m, p, g, (in_kept P ss).1 (behind Q s m g, (ps, f, e, tt)), x),
        );
      }
  seen Q (s ∷ ss) (suc k) l =
      let rest = seen (forward b.table Q s) ss k (omega arith) in
      record {
        from = rest.from;
        to = rest.to;
        entry = rest.entry;
        ways = λ X. (
          λ h.
              let (r, m', a) = (rest.ways X).0 h in
              let (q, m, p, g, e) = (in_forward b.table fits Q s).0 m' in
              (q, m, (ahead_cons b q _ s ss).1 (p, g, rw e a)),
          λ (q, m, a). let (p, g, r) = (ahead_cons b q _ s ss).0 a in (rest.ways X).1 (run b.table q p, behind Q s m g, r),
        );
      }
