-- What was worked out before: one state or letter more, and the states after one letter from what is known of each.
-- Assumes nothing.
use Prim.Native.Nat.{ℕ, ◌^◌, ◌<◌}
use mathlib.Core.Path.{◌≡◌, refl, sym, ◌∙◌}
use mathlib.Core.Logic.{⊎_elim}
use mathlib.Core.Bool.{Bool, true, false}
use mathlib.Core.List.{[]}
use borrow.Author.Tests.{eqb-true, eqb-false}
use lib.Dec.{eqb}
use lib.ListN.{length, get_or, set}
use lib.Seq.{get_or-set_same, get_or-set_other}
use Rattle.model.specs.Set.{Member, either, union_of}
use Rattle.model.specs.Automaton.{Table, next}
use Rattle.model.specs.Passes.{reach, after}
use Rattle.model.proofs.Set.{in_union, union_bytes}
use Rattle.model.proofs.Steps.{in_after}
use Rattle.bitset.specs.Listed.{listed}
use Rattle.bitset.proofs.Listed.{joined, union_listed, joined_none, joined_keeps}
use Rattle.bitset.proofs.Laws.{same_members, in_add}
use Rattle.propagator.specs.Moves.{Below}
use Rattle.propagator.specs.declared.memo.Memo.{Memo}
use Rattle.propagator.specs.Known.{Remembers, image, Targets, limit}
use Rattle.propagator.proofs.Leading.{image_bytes, after_bytes}
use Rattle.propagator.proofs.Targets.{in_limit}

-- ---- what is remembered

module _ (f : ℕ → ℕ) (m : Memo) (held : Remembers m f) (i : ℕ) (small : i < 64) where
  -- one number more
  pub held_more : (r all : ℕ) → i < length m.values → r ≡ f i → all ≡ either m.known (2 ^ i) → Remembers (record { values = set m.values i r; known = all }) f
  held_more r all here e d j n = ⊎_elim (λ o. old (eqb j i) refl o) (λ o. rw o new) ((in_add m.known i j small).0 (rw d at n))
    where
      new : get_or (set m.values i r) i 0 ≡ f i
      new = get_or-set_same m.values i r 0 here ∙ e

      old : (v : Bool) → eqb j i ≡ v → Member j m.known → get_or (set m.values i r) j 0 ≡ f j
      old true o n = rw (eqb-true j i o) new
      old false o n = get_or-set_other m.values i j r 0 (eqb-false j i o) ∙ held j n

-- ---- the states after one letter from the states of a set

-- what the loop over the states keeps: what is found, with what the states of rest reach, is what all of Q reach
abbrev pub Stepping : Table → ℕ → ℕ → ℕ → ℕ → Type 0
Stepping t S Q rest found = joined (reach t S) found rest ≡ after t S Q

-- nothing is found yet
pub stepping_starts : (t : Table) (S Q r : ℕ) → r ≡ Q → Stepping t S Q r 0
unfolding after
stepping_starts t S Q r e = rw e (union_listed Q (reach t S))

-- all states that a letter can lead to are found
pub stepping_full : (t : Table) (S Q rest found : ℕ) → Stepping t S Q rest found → t.states < 64 → (B : ℕ) → found < 2 ^ 64 → Targets t B
    → Below t.letters S → found ≡ limit t.states B Q → found ≡ after t S Q
stepping_full t S Q rest found stepping fits B bytes targets below e = same_members found (after t S Q) bytes (after_bytes t fits S Q) (λ x. (
  λ m. rw stepping at (joined_keeps rest (reach t S) found x m),
  λ m. let (q, n, c, l, o) = (in_after t fits S Q).0 m in rw e (rw o at (in_limit t fits B Q targets q c n (below c l))),
))

-- ---- the states after one letter, letter by letter

-- the states after one letter, taken letter by letter
images_are : (t : Table) → t.states < 64 → (S Q : ℕ) → union_of S (image t Q) ≡ after t S Q
unfolding after reach image
images_are t fits S Q =
    same_members (union_of S (image t Q)) (after t S Q) (union_bytes S (image t Q) (image_bytes t fits Q)) (after_bytes t fits S Q) (λ x. (
      λ m.
          let (c, l, o) = (in_union S (image t Q) {i = x}).0 m in
          let (q, n, p) = (in_union Q (λ q. 2 ^ next t q c) {i = x}).0 o in
          (in_union Q (reach t S) {i = x}).1 (q, n, (in_union S (λ c. 2 ^ next t q c) {i = x}).1 (c, l, p)),
      λ m.
          let (q, n, o) = (in_union Q (reach t S) {i = x}).0 m in
          let (c, l, p) = (in_union S (λ c. 2 ^ next t q c) {i = x}).0 o in
          (in_union S (image t Q) {i = x}).1 (c, l, (in_union Q (λ q. 2 ^ next t q c) {i = x}).1 (q, n, p)),
    ))

-- what the loop over the letters keeps: what is found, with what the letters of rest lead to, is what all of S lead to from Q
abbrev pub Imaging : Table → ℕ → ℕ → ℕ → ℕ → Type 0
Imaging t S Q rest found = joined (image t Q) found rest ≡ union_of S (image t Q)

-- nothing is found yet
pub imaging_starts : (t : Table) (S Q r : ℕ) → r ≡ S → Imaging t S Q r 0
imaging_starts t S Q r e = rw e (union_listed S (image t Q))

-- no letter is left
pub imaging_ends : (t : Table) (S Q rest found : ℕ) → Imaging t S Q rest found → t.states < 64 → listed rest ≡ [] → found ≡ after t S Q
imaging_ends t S Q rest found imaging fits e = sym (joined_none rest e (image t Q) found) ∙ imaging ∙ images_are t fits S Q
