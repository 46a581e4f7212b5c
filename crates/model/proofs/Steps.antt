-- The steps of the passes by letters and words: one letter (after, before, between), exactly so many (Qj), at most so many
-- (R, and b by its levels), and the least b.
-- Assumes nothing.
use Rattle.std.proofs.Common.{◌≡◌, ℕ, zero, suc, ◌+◌, ◌^◌, ◌<◌, ◌≤◌, Bool, T, ◌⊎◌, ◌↔◌, List, [], ◌∷◌, ◌++◌, length, replicate, refl, inl, inr, ⊎_elim, zero-le, add-zero, zero-add, arith, length-append}
use native.Mathlib.Decide.{le_ind}
use Rattle.model.specs.Set.{has, Member, some_member, either}
use Rattle.model.specs.DashedString.{Within, nil, cons}
use Rattle.model.specs.Automaton.{Table, next, run}
use Rattle.model.specs.Passes.{mandatory, reach, after, before, between, rounds, at_most, to_end, first, fewest, forward, final}
use Rattle.model.proofs.Set.{in_one, one_in, in_either, some_member_lem, in_members, in_union, in_related, members_bytes}
use Rattle.model.proofs.Automaton.{next_le}
use Rattle.model.proofs.Words.{within_append, run_append}

-- ---- the first that passes

-- it is at most the end
first_end : (k i : ℕ) (p : ℕ → Bool) → first k i p ≤ i + k
unfolding first
first_end zero i p = omega arith
first_end (suc k) i p = grind (arith, first_end k (suc i) p)

-- it is at most each one from i on that passes
first_least : (k i d : ℕ) (p : ℕ → Bool) → i ≤ d → T (p d) → first k i p ≤ d
unfolding first
first_least zero i d p l h = l
first_least (suc k) i d p l h = grind (arith, first_least k (suc i) d p)

-- where the end passes, it passes
first_passes : (k i : ℕ) (p : ℕ → Bool) → T (p (i + k)) → T (p (first k i p))
unfolding first
first_passes zero i p h = rw add-zero at h
first_passes (suc k) i p h =
    let shift : i + suc k ≡ suc i + k = omega arith in
    grind (arith, first_passes k (suc i) p (rw shift at h))

-- ---- rounds

-- one round more: what was there, and what f gives of it
in_rounds : (f : ℕ → ℕ) (Q k : ℕ) {i : ℕ} → Member i (rounds f Q (suc k)) ↔ (Member i (rounds f Q k) ⊎ Member i (f (rounds f Q k)))
unfolding rounds
in_rounds f Q k = in_either (rounds f Q k) (f (rounds f Q k))

-- more rounds lose nothing
pub rounds_mono : (f : ℕ → ℕ) (Q j k : ℕ) {i : ℕ} → j ≤ k → Member i (rounds f Q j) → Member i (rounds f Q k)
rounds_mono f Q j k {i} l h = le_ind (λ m. Member i (rounds f Q m)) h (λ m _ g. (in_rounds f Q m).1 (inl g)) k l

-- where a round adds nothing, no later one does
pub rounds_stay : (f : ℕ → ℕ) (Q j k : ℕ) → either (rounds f Q j) (f (rounds f Q j)) ≡ rounds f Q j → j ≤ k → rounds f Q k ≡ rounds f Q j
unfolding rounds
rounds_stay f Q j k e l = le_ind (λ m. rounds f Q m ≡ rounds f Q j) refl (λ m _ g. rw g e) k l

-- ---- the letters that stay

-- they are letters of S
pub between_within : (t : Table) (S Q E : ℕ) {c : ℕ} → Member c (between t S Q E) → Member c S
unfolding between
between_within t S Q E h = ((in_members S (λ c. some_member Q (λ q. has E (next t q c)))).0 h).0

-- and a set of 8 bytes
pub between_bytes : (t : Table) (S Q E : ℕ) → between t S Q E < 2 ^ 64
unfolding between
between_bytes t S Q E = members_bytes S (λ c. some_member Q (λ q. has E (next t q c)))

-- the lower bound of an optional part is at most its upper bound
pub fewest_end : (t : Table) (S R E Q w : ℕ) → fewest t S R E Q w ≤ w
unfolding fewest
fewest_end t S R E Q w = omega (arith, first_end w 0 (λ d. some_member Q (has (to_end t S R E d))))

-- ---- words between states

-- on the way of the word from q each state but the last is in R
abbrev pub Stays : Table → ℕ → ℕ → List ℕ → Type 0
Stays t R q [] = Unit {0}
Stays t R q (c ∷ p) = Member q R × Stays t R (next t q c) p

-- r is reached from a state of Q by a word of exactly j letters of S
abbrev pub Exactly : Table → ℕ → ℕ → ℕ → ℕ → Type 0
Exactly t S Q j r = (q : ℕ) × Member q Q × (p : List ℕ) × Within S p × (length p ≡ j) × (run t q p ≡ r)

-- r is reached from a state of Q by a word of at most k letters of S
abbrev pub Reached : Table → ℕ → ℕ → ℕ → ℕ → Type 0
Reached t S Q k r = (q : ℕ) × Member q Q × (p : List ℕ) × Within S p × (length p ≤ k) × (run t q p ≡ r)

-- b(q) ≤ d: a word of at most d letters of S leads from q to E, passing only states of R
abbrev pub Leads : Table → ℕ → ℕ → ℕ → ℕ → ℕ → Type 0
Leads t S R E d q = (p : List ℕ) × Within S p × (length p ≤ d) × Stays t R q p × Member (run t q p) E

module _ (t : Table) (fits : t.states < 64) where
  -- a move leads to a state or to the dead state, and these have numbers below 64
  next_small : (q c : ℕ) → next t q c < 64
  next_small q c = omega (arith, next_le t q c)

  -- ---- one letter

  -- a state is after one letter of S exactly when a move by one leads there from a state of Q
  pub in_after : (S Q : ℕ) {r : ℕ} → Member r (after t S Q) ↔ ((q : ℕ) × Member q Q × (c : ℕ) × Member c S × (next t q c ≡ r))
  unfolding after reach
  in_after = grind (arith, in_union, in_one, one_in, next_small)

  -- before E: a state of Q with a move by a letter of S into E
  pub in_before : (S Q E : ℕ) {q : ℕ} → Member q (before t S Q E) ↔ (Member q Q × (c : ℕ) × Member c S × Member (next t q c) E)
  unfolding before
  in_before S Q E = in_related Q S E (λ q c. next t q c) next_small

  -- between Q and E: a letter of S with a move from Q into E
  pub in_between : (S Q E : ℕ) {c : ℕ} → Member c (between t S Q E) ↔ (Member c S × (q : ℕ) × Member q Q × Member (next t q c) E)
  unfolding between
  in_between S Q E = in_related S Q E (λ c q. next t q c) (λ c q. next_small q c)

  -- ---- Qj: exactly j letters

  -- to a state behind j places exactly j letters lead
  exactly_in : (S Q j : ℕ) {r : ℕ} → Member r (final t Q (replicate j (mandatory S))) → Exactly t S Q j r
  unfolding final forward
  exactly_in S Q zero {r} h = (r, h, [], nil, refl, refl)
  exactly_in S Q (suc j) {r} h =
      let (s, m', p, w, l, e) = exactly_in S (after t S Q) j {r = r} h in
      let (q, m, c, n, d) = (in_after S Q).0 m' in
      (q, m, c ∷ p, cons n w, omega arith, rw d e)

  -- and where they lead is a state behind j places
  exactly_out : (S Q j : ℕ) {q : ℕ} {p : List ℕ} → Member q Q → Within S p → length p ≡ j → Member (run t q p) (final t Q (replicate j (mandatory S)))
  unfolding final forward
  exactly_out S Q zero m nil l = m
  exactly_out S Q zero m (cons n h) l = absurd (omega arith)
  exactly_out S Q (suc j) m nil l = absurd (omega arith)
  exactly_out S Q (suc j) {q} m (cons {c} n h) l = grind (arith, in_after, exactly_out S (after t S Q) j)

  -- Qj, the set behind j places, has the states after exactly j letters
  pub in_exactly : (S Q j : ℕ) {r : ℕ} → Member r (final t Q (replicate j (mandatory S))) ↔ Exactly t S Q j r
  in_exactly S Q j = (exactly_in S Q j, λ (q, m, p, h, l, e). rw e at (exactly_out S Q j m h l))

  -- ---- R: at most k letters

  -- a letter leads from a state of the j-th round to one of the next
  pub round : (S Q j : ℕ) {q c : ℕ} → Member q (at_most t S Q j) → Member c S → Member (next t q c) (at_most t S Q (suc j))
  round S Q j {q} {c} m n = (in_rounds (after t S) Q j).1 (inr ((in_after S (at_most t S Q j)).1 (q, m, c, n, refl)))

  -- and so does a word, over as many rounds as it has letters
  reaches : (S Q j k : ℕ) {q : ℕ} {p : List ℕ} → Member q (at_most t S Q j) → Within S p → j + length p ≤ k → Member (run t q p) (at_most t S Q k)
  reaches S Q j k m nil l = rounds_mono (after t S) Q j k (omega arith) m
  reaches S Q j k m (cons n h) l = reaches S Q (suc j) k (round S Q j m n) h (omega arith)

  -- a state of the k-th round is reached by at most k letters
  reached : (S Q k : ℕ) {r : ℕ} → Member r (at_most t S Q k) → Reached t S Q k r
  unfolding rounds
  reached S Q zero {r} h = (r, h, [], nil, zero-le, refl)
  reached S Q (suc k) {r} h =
      ⊎_elim (λ a. let (q, m, p, w, l, e) = reached S Q k {r = r} a in (q, m, p, w, omega arith, e))
      (λ a.
      let (s, m', c, n, d) = (in_after S (at_most t S Q k)).0 a in
      let (q, m, p, w, l, e) = reached S Q k {r = s} m' in
      (q, m, p ++ c ∷ [], within_append w (cons n nil), simp length-append (omega arith), rw (run_append t q p (c ∷ []), e) d))
      ((in_rounds (after t S) Q k).0 h)

  -- the states of R are those reached by at most k letters
  pub in_at_most : (S Q k : ℕ) {r : ℕ} → Member r (at_most t S Q k) ↔ Reached t S Q k r
  unfolding rounds
  in_at_most S Q k = (reached S Q k, λ (q, m, p, h, l, e). rw e at (reaches S Q 0 k m h (omega arith)))

  -- a word from a state of the j-th round stays in R
  stays : (S Q w j : ℕ) {q : ℕ} {p : List ℕ} → Member q (at_most t S Q j) → Within S p → j + length p ≤ w → Stays t (at_most t S Q w) q p
  stays S Q w j m nil l = tt
  stays S Q w j {q} m (cons {c} n h) l = grind (arith, rounds_mono, round, stays S Q w (suc j) {q = next t q c} (round S Q j m n) h)

  -- ---- b by its levels: at most d letters

  -- from a state of level d at most d letters lead to E
  leads_in : (S R E d : ℕ) {q : ℕ} → Member q (to_end t S R E d) → Leads t S R E d q
  unfolding rounds
  leads_in S R E zero h = ([], nil, zero-le, tt, h)
  leads_in S R E (suc d) {q} h =
      ⊎_elim (λ a. let (p, w, l, s, e) = leads_in S R E d {q = q} a in (p, w, omega arith, s, e))
      (λ a.
      let (m, c, n, k) = (in_before S R (to_end t S R E d)).0 a in
      let (p, w, l, s, e) = leads_in S R E d {q = next t q c} k in
      (c ∷ p, cons n w, omega arith, (m, s), e))
      ((in_rounds (before t S R) E d).0 h)

  -- and where they do, the state is of level d
  leads_out : (S R E d : ℕ) {q : ℕ} {p : List ℕ} → Within S p → length p ≤ d → Stays t R q p → Member (run t q p) E → Member q (to_end t S R E d)
  unfolding rounds
  leads_out S R E d nil l s e = rounds_mono (before t S R) E 0 d zero-le e
  leads_out S R E zero (cons n h) l s e = absurd (omega arith)
  leads_out S R E (suc d) {q} (cons {c} n h) l (m, s) e = grind (arith, in_rounds, in_before, leads_out S R E d {q = next t q c} h)

  -- level d of b has the states q with b(q) ≤ d
  pub in_to_end : (S R E d : ℕ) {q : ℕ} → Member q (to_end t S R E d) ↔ Leads t S R E d q
  in_to_end S R E d = (leads_in S R E d, λ (p, h, l, s, e). leads_out S R E d h l s e)

  -- ---- the lower bound of the optional part

  -- a state of Q is of level d
  near : (S R E Q d : ℕ) → T (some_member Q (has (to_end t S R E d))) ↔ ((q : ℕ) × Member q Q × Leads t S R E d q)
  near = grind (arith, in_to_end, some_member_lem)

  -- it is at most b(q), for each q of Q
  pub fewest_least : (S R E Q w d : ℕ) {q : ℕ} → Member q Q → Leads t S R E d q → fewest t S R E Q w ≤ d
  unfolding fewest
  fewest_least S R E Q w d {q} m l = first_least w 0 d (λ d. some_member Q (has (to_end t S R E d))) zero-le ((near S R E Q d).1 (q, m, l))

  -- and it is b(q) for some q of Q, where some b(q) is at most w
  pub fewest_met : (S R E Q w : ℕ) {q : ℕ} → Member q Q → Leads t S R E w q → (q : ℕ) × Member q Q × Leads t S R E (fewest t S R E Q w) q
  unfolding fewest
  fewest_met S R E Q w {q} m l =
      let test : ℕ → Bool = λ d. some_member Q (has (to_end t S R E d)) in
      (near S R E Q (first w 0 test)).0 (first_passes w 0 test (rw zero-add ((near S R E Q w).1 (q, m, l))))

  -- ---- words from a round

  -- where R is what Q reaches by at most w letters, b(q) ≤ d for a state q of the j-th round from which d letters lead to E
  pub led : (S Q E w j d : ℕ) {q : ℕ} {p : List ℕ} → Member q (at_most t S Q j) → Within S p → Member (run t q p) E
      → j + length p ≤ w → length p ≤ d → Leads t S (at_most t S Q w) E d q
  led S Q E w j d {p = p} m h e l f = (p, h, f, stays S Q w j m h l, e)
