-- Words joined: within a set, along a run, and as a language of a mask.
-- Assumes nothing.
use Rattle.std.proofs.Common.{◌≡◌, ℕ, ◌↔◌, List, [], ◌∷◌, ◌++◌, refl}
use mathlib.Core.List.{flatten}
use Rattle.model.specs.declared.Block.{Block}
use Rattle.model.specs.Set.{Member}
use Rattle.model.specs.DashedString.{Within, nil, cons, Piece, Factorization, done, then, Matches}
use Rattle.model.specs.Automaton.{Table, next, run}
use Rattle.model.proofs.Set.{in_none}

-- two words within a set, one behind the other, are within it
pub within_append : {S : ℕ} {p q : List ℕ} → Within S p → Within S q → Within S (p ++ q)
within_append nil v = v
within_append (cons m u) v = cons m (within_append u v)

-- both parts of a word within a set are within it
pub within_split : {S : ℕ} (p : List ℕ) {q : List ℕ} → Within S (p ++ q) → Within S p × Within S q
within_split [] v = (nil, v)
within_split (c ∷ p) (cons m v) = let (u, t) = within_split p v in (cons m u, t)

-- a word within a set is within each set that holds it
pub within_mono : {S R : ℕ} {p : List ℕ} → ((c : ℕ) → Member c S → Member c R) → Within S p → Within R p
within_mono f nil = nil
within_mono f (cons {c} m h) = cons (f c m) (within_mono f h)

-- only the empty word is within the empty set
pub within_zero : {p : List ℕ} → Within 0 p → p ≡ []
within_zero nil = refl
within_zero (cons m v) = absurd (in_none m)

-- the state after two words is that after the second, from that after the first
pub run_append : (t : Table) (q : ℕ) (p w : List ℕ) → run t q (p ++ w) ≡ run t (run t q p) w
run_append t q [] w = refl
run_append t q (c ∷ p) w = run_append t (next t q c) p w

-- a mask of no blocks spells only the empty word
pub matches_nil : (w : List ℕ) → Matches [] w ↔ (w ≡ [])
unfolding flatten
matches_nil w = (λ (ps, f, e). out f e, λ e. ([], done, rw e))
  where
    out : {ps : List (List ℕ)} → Factorization [] ps → flatten ps ≡ w → w ≡ []
    out done e = cc

-- a word of the one language, and behind it a word of the other
abbrev pub Concat : (List ℕ → Type 0) → (List ℕ → Type 0) → List ℕ → Type 0
Concat A B w = (p q : List ℕ) × A p × B q × (p ++ q ≡ w)

-- a word of a mask is a piece of its first block, and behind it a word of the others
pub matches_cons : {x : Block} {xs : List Block} {w : List ℕ} → Matches (x ∷ xs) w ↔ Concat (Piece x) (Matches xs) w
unfolding flatten
matches_cons {x} {xs} {w} = (λ (ps, f, e). out f e, λ (p, q, a, (ps, f, e), d). (p ∷ ps, then a f, cc))
  where
    out : {ps : List (List ℕ)} → Factorization (x ∷ xs) ps → flatten ps ≡ w → Concat (Piece x) (Matches xs) w
    out (then {p = p} {ps = ps} a f) e = (p, flatten ps, a, (ps, f, refl), e)
