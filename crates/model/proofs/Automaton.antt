-- A move leads to a state or to the dead state, which never leaves itself (01, "Letters, codes, blocks").
-- Assumes nothing.
use Rattle.std.proofs.lemmas.Grind.{common_steps}
use Rattle.std.proofs.Common.{◌≡◌, ℕ, ◌≤◌, List, [], ◌∷◌, refl, arith}
use Rattle.model.specs.Automaton.{Table, next, run}

-- a move leads to a state or to the dead state
pub next_le : (t : Table) (q c : ℕ) → next t q c ≤ t.states
unfolding next
next_le = grind (arith, common_steps)

-- by one letter
dead_next : (t : Table) (c : ℕ) → next t t.states c ≡ t.states
unfolding next
dead_next = grind (arith, common_steps)

-- by any word
pub dead_stays : (t : Table) (w : List ℕ) → run t t.states w ≡ t.states
dead_stays t [] = refl
dead_stays t (c ∷ w) = rw (dead_next t c) (dead_stays t w)
