-- The states that moves lead to.
-- Assumes nothing.
use Prim.Native.Nat.{ℕ, ◌+◌, ◌*◌, ◌-◌, ◌%◌, ◌^◌, ◌≤◌, ◌<◌}
use mathlib.Core.Path.{◌≡◌, refl, sym}
use mathlib.Core.Logic.{inl, inr}
use mathlib.Core.Bool.{Bool, true, false, cond}
use native.Mathlib.Nat.{mod-eq_of_lt}
use native.Mathlib.Omega.{arith}
use borrow.Author.Tests.{ltb-true, ltb-false, leb-false}
use lib.Bits.{and_mask}
use lib.Dec.{ltb, leb}
use lib.ListN.{length, get_or}
use lib.Pow.{pow-lt}
use Rattle.model.specs.Set.{Member, either, some_from}
use Rattle.model.specs.Automaton.{Table, next}
use Rattle.model.proofs.Set.{one_in, in_both, in_either}
use Rattle.model.proofs.Automaton.{next_le}
use Rattle.records.specs.Check.{some}
use Rattle.records.proofs.Checks.{none_at}
use Rattle.records.proofs.Next.{move_inside, next_names}
use Rattle.bitset.proofs.Laws.{same_test, some_from_lem}
use Rattle.propagator.specs.Known.{targets, Targets, limit}
use Rattle.propagator.proofs.Leading.{next_dead}

-- 1 shifted by n
pub shifted : (n : ℕ) → n < 64 → 1 * 2 ^ n % 2 ^ 64 ≡ 2 ^ n
shifted n h = omega (arith, pow-lt {i = n} {j = 64} h)

-- each number below n is in the set of n ones
below_in : (n j : ℕ) → j < n → j < 64 → Member j (2 ^ n - 1)
below_in n j l small =
    let same : 2 ^ j % 2 ^ n ≡ 2 ^ j = mod-eq_of_lt (pow-lt l) in
    ((in_both (2 ^ j) (2 ^ n - 1) {i = j}).0 (rw (and_mask (2 ^ j) n, same) (one_in small))).1

-- moves lead to the states of the book and, where one names none, to the dead state
targets_hold : (t : Table) → t.states < 64 → t.states * t.letters ≤ length t.moves → Targets t (targets t)
unfolding targets
targets_hold t fits room q c state letter = go (some (leb t.states) t.moves) refl (ltb x t.states) refl
  where
    x : ℕ
    x = next t q c

    go : (v : Bool) → some (leb t.states) t.moves ≡ v → (u : Bool) → ltb x t.states ≡ u → Member x (cond v (either (2 ^ t.states - 1) (2 ^ t.states)) (2 ^ t.states - 1))
    go true e true d = (in_either (2 ^ t.states - 1) (2 ^ t.states)).1 (inl (below_in t.states x (ltb-true x t.states d) (omega (arith, ltb-true x t.states d))))
    go true e false d =
        let dead : x ≡ t.states = omega (arith, ltb-false x t.states d, next_le t q c) in
        (in_either (2 ^ t.states - 1) (2 ^ t.states)).1 (inr (rw dead (one_in fits)))
    go false e u d =
        let i = q * t.letters + c in
        let names = leb-false t.states (get_or t.moves i 0) ((none_at (leb t.states) t.moves).0 e i (move_inside t.states t.letters t.moves q c state letter room)) in
        let same = next_names t.states t.letters t.moves q c state letter (get_or t.moves i 0) refl names in
        let small : x < t.states = rw (← same) names in
        below_in t.states x small (omega arith)

-- and so to the states of a set that is given by an equation
pub targets_given : (t : Table) (B : ℕ) → B ≡ targets t → t.states < 64 → t.states * t.letters ≤ length t.moves → Targets t B
targets_given t B e fits room = rw e (targets_hold t fits room)

-- so one letter from states of Q leads within the limit
pub in_limit : (t : Table) → t.states < 64 → (B Q : ℕ) → Targets t B → (q c : ℕ) → Member q Q → c < t.letters → Member (next t q c) (limit t.states B Q)
unfolding limit
in_limit t fits B Q targets q c m letter = go (ltb q t.states) refl
  where
    wider : (v : Bool) → Member (next t q c) B → Member (next t q c) (cond v (either B (2 ^ t.states)) B)
    wider true n = (in_either B (2 ^ t.states)).1 (inl n)
    wider false n = n

    go : (u : Bool) → ltb q t.states ≡ u → Member (next t q c) (cond (some_from Q t.states) (either B (2 ^ t.states)) B)
    go true e = wider (some_from Q t.states) (targets q c (ltb-true q t.states e) letter)
    go false e =
        let high = ltb-false q t.states e in
        let some : some_from Q t.states ≡ true = sym (same_test true (some_from Q t.states) (λ _. (some_from_lem Q t.states).1 (q, m, high), λ _. tt)) in
        rw (some, ← next_dead t q c high) ((in_either B (2 ^ t.states)).1 (inr (one_in fits)))
