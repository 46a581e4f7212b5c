-- Step 5's loop over the states before one place: the letters that stay in it, and the states kept before it.
-- Assumes nothing.
use Prim.Native.Nat.{ℕ, ◌^◌, ◌<◌}
use mathlib.Core.Path.{◌≡◌, sym, ◌∙◌}
use mathlib.Core.Logic.{◌⊎◌, inl, inr, ⊎_elim}
use mathlib.Core.Bool.{true, false}
use mathlib.Core.List.{◌∷◌}
use native.Mathlib.Omega.{arith}
use lib.Bits.{or_lt}
use Rattle.std.specs.Prelude.{filter, fold}
use Rattle.model.specs.Set.{Member, either, union_of}
use Rattle.model.specs.Automaton.{Table, next}
use Rattle.model.specs.Passes.{before, between}
use Rattle.model.proofs.Set.{in_none, in_one, one_in, in_either, in_union, union_bytes}
use Rattle.model.proofs.Steps.{between_bytes, in_between}
use Rattle.bitset.specs.Difference.{difference}
use Rattle.bitset.specs.Listed.{listed}
use Rattle.bitset.proofs.Laws.{same_test, same_members, trailing_first, in_difference}
use Rattle.bitset.proofs.Listed.{joined, union_listed, members_listed, joined_next}
use Rattle.propagator.specs.Moves.{leads}
use Rattle.propagator.proofs.Gathering.{inside_or_not}
use Rattle.propagator.proofs.Leading.{Leading, leads_exact, leading_before}

-- the states found, and those of rest from which a letter leads to E
abbrev keeping : Table → ℕ → ℕ → ℕ → ℕ → ℕ
keeping t S E states rest = fold (λ a q. either a (2 ^ q)) states (filter (leads t S E) (listed rest))

-- what is found of a place between Q and E, where the states of rest are still to be looked at
pub record Narrowing (t : Table) (S Q E letters states rest : ℕ) : Type 0 where
  pub bytes : letters < 2 ^ 64
  pub inside : (c : ℕ) → Member c letters → Member c S
  pub letter : joined (λ q. between t S (2 ^ q) E) letters rest ≡ between t S Q E
  pub state : keeping t S E states rest ≡ before t S Q E

-- the letters that lead from each state of a set
each_between : (t : Table) → t.states < 64 → (S Q E : ℕ) → union_of Q (λ q. between t S (2 ^ q) E) ≡ between t S Q E
each_between t fits S Q E =
    same_members (union_of Q (λ q. between t S (2 ^ q) E)) (between t S Q E) (union_bytes Q (λ q. between t S (2 ^ q) E) (λ q. between_bytes t S (2 ^ q) E))
    (between_bytes t S Q E) (λ c. (
      λ m.
          let (q, n, k) = (in_union Q (λ q. between t S (2 ^ q) E) {i = c}).0 m in
          let (l, p, o, e) = (in_between t fits S (2 ^ q) E).0 k in
          let same : p ≡ q = in_one o in
          (in_between t fits S Q E).1 (l, q, n, rw same at e),
      λ m.
          let (l, q, n, e) = (in_between t fits S Q E).0 m in
          (in_union Q (λ q. between t S (2 ^ q) E) {i = c}).1 (q, n, (in_between t fits S (2 ^ q) E).1 (l, q, one_in n.small, e)),
    ))

-- no state is looked at yet
pub narrowing_starts : {t : Table} → t.states < 64 → {S Q E r : ℕ} → r ≡ Q → Narrowing t S Q E 0 0 r
narrowing_starts {t} fits {S} {Q} {E} {r} e =
    record {
      bytes = omega arith;
      inside = λ c m. absurd (in_none m);
      letter = rw e (union_listed Q (λ q. between t S (2 ^ q) E) ∙ each_between t fits S Q E);
      state = rw e (members_listed Q (leads t S E) ∙ leading_before t S Q E);
    }

module _ {t : Table} (fits : t.states < 64) {S Q E letters states rest : ℕ} (narrowing : Narrowing t S Q E letters states rest) where
  -- one state i more: fresh are the letters not found before that lead from it
  module _ (i rest' : ℕ) {fresh : ℕ} (first : listed rest ≡ i ∷ listed rest') (small : i < 64) (new : fresh ≡ between t (difference S letters) (2 ^ i) E) where
    -- the letters by which i leads to E are those found now or before
    leading : {c : ℕ} → Member c S → Member (next t i c) E → Member c letters ⊎ Member c fresh
    leading {c} n e =
        ⊎_elim inl
        (λ k. inr (rw new ((in_between t fits (difference S letters) (2 ^ i) E).1 ((in_difference S letters).1 (n, k), i, one_in small, e))))
        (inside_or_not letters n.small)

    -- a fresh letter is one of S that leads from i to E
    fresh_leads : {c : ℕ} → Member c fresh → Member c S × Member (next t i c) E
    fresh_leads {c} k =
        let (n, q, one, e) = (in_between t fits (difference S letters) (2 ^ i) E).0 (rw new at k) in
        let same : q ≡ i = in_one one in
        (((in_difference S letters).0 n).0, rw same at e)

    -- the fresh letters are a set of 8 bytes
    fresh_bytes : fresh < 2 ^ 64
    fresh_bytes = rw new (between_bytes t (difference S letters) (2 ^ i) E)

    -- where there is a fresh letter, one leads from i
    fresh_found : ¬ (fresh ≡ 0) → Leading t S E i
    fresh_found n =
        let (k, e) = fresh_leads (trailing_first fresh fresh_bytes (omega arith)).member in
        (_, k, e)

    -- where a letter found before leads from i, one of S does
    old_found : leads t letters E i ≡ true → Leading t S E i
    old_found e = let (c, k, d) = (leads_exact t fits letters E i).0 (rw e tt) in (c, narrowing.inside c k, d)

    -- where there is neither, none leads from i
    none_found : fresh ≡ 0 → leads t letters E i ≡ false → ¬ Leading t S E i
    none_found e f (c, n, d) =
        ⊎_elim (λ k. rw f at ((leads_exact t fits letters E i).1 (c, k, d))) (λ k. in_none (rw e at k)) (leading n d)

    -- with the fresh letters, all are found that lead from i
    all_found : either letters fresh ≡ either letters (between t S (2 ^ i) E)
    all_found =
        same_members (either letters fresh) (either letters (between t S (2 ^ i) E)) (or_lt 64 letters fresh narrowing.bytes fresh_bytes)
        (or_lt 64 letters (between t S (2 ^ i) E) narrowing.bytes (between_bytes t S (2 ^ i) E)) (λ c. (
          λ m.
              (in_either letters (between t S (2 ^ i) E)).1
              (⊎_elim inl (λ k. let (n, e) = fresh_leads k in inr ((in_between t fits S (2 ^ i) E).1 (n, i, one_in small, e))) ((in_either letters fresh).0 m)),
          λ m.
              (in_either letters fresh).1
              (⊎_elim inl (λ k. let (n, p, o, e) = (in_between t fits S (2 ^ i) E).0 k in let same : p ≡ i = in_one o in leading n (rw same at e))
              ((in_either letters (between t S (2 ^ i) E)).0 m)),
        ))

    -- the state is kept where some letter leads from it
    kept_more : (states' : ℕ) → ((¬ (fresh ≡ 0) ⊎ (leads t letters E i ≡ true)) × (states' ≡ either states (2 ^ i))) ⊎ ((fresh ≡ 0) × (leads t letters E i ≡ false) × (states' ≡ states))
        → keeping t S E states' rest' ≡ keeping t S E states rest
    kept_more states' =
        ⊎_elim
        (λ (a, e).
        let yes : leads t S E i ≡ true = sym (same_test true (leads t S E i) (λ _. (leads_exact t fits S E i).1 (⊎_elim fresh_found old_found a), λ _. tt)) in
        rw (first, yes, e))
        (λ (a, b, e).
        let no : leads t S E i ≡ false = sym (same_test false (leads t S E i) (λ k. absurd k, λ k. absurd (none_found a b ((leads_exact t fits S E i).0 k)))) in
        rw (first, no, e))

    -- what was found with this state too
    pub narrowing_more : {letters' states' : ℕ} → letters' ≡ either letters fresh
        → ((¬ (fresh ≡ 0) ⊎ (leads t letters E i ≡ true)) × (states' ≡ either states (2 ^ i))) ⊎ ((fresh ≡ 0) × (leads t letters E i ≡ false) × (states' ≡ states))
        → Narrowing t S Q E letters' states' rest'
    narrowing_more {letters'} {states'} e kept =
        record {
          bytes = rw e (or_lt 64 letters fresh narrowing.bytes fresh_bytes);
          inside = rw e (λ c m. ⊎_elim (narrowing.inside c) (λ k. (fresh_leads k).0) ((in_either letters fresh).0 m));
          letter = rw (e, all_found) (sym (joined_next rest rest' i first (λ q. between t S (2 ^ q) E) letters) ∙ narrowing.letter);
          state = kept_more states' kept ∙ narrowing.state;
        }
