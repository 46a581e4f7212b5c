-- The states reached by at most so many letters, round by round: each round steps from the states alone that the last one added.
-- Assumes nothing.
use Prim.Native.Nat.{ℕ, ◌+◌, ◌^◌, ◌≤◌, ◌<◌}
use mathlib.Core.Path.{◌≡◌, sym, ◌∙◌}
use mathlib.Core.Logic.{◌⊎◌, inl, inr, ⊎_elim, ⊎_map}
use mathlib.Core.Bool.{not}
use native.Mathlib.Numerals.{add-one}
use lib.Bits.{or_lt, or_zero_r}
use Rattle.model.specs.Set.{has, Member, either}
use Rattle.model.specs.Automaton.{Table}
use Rattle.model.specs.Passes.{after, rounds, at_most}
use Rattle.model.proofs.Set.{in_either, members_bytes}
use Rattle.model.proofs.Steps.{rounds_stay, in_after}
use Rattle.bitset.specs.Difference.{difference}
use Rattle.bitset.proofs.Laws.{same_members, in_difference}
use Rattle.propagator.proofs.Gathering.{inside_or_not}
use Rattle.propagator.proofs.Leading.{after_bytes}

-- a member is in another set or in the difference
in_or_left : (s t : ℕ) {i : ℕ} → Member i s → Member i t ⊎ Member i (difference s t)
in_or_left s t m = ⊎_map (λ n. n) (λ n. (in_difference s t).1 (m, n)) (inside_or_not t m.small)

-- which is a set of 8 bytes
difference_bytes : (s t : ℕ) → difference s t < 2 ^ 64
unfolding difference
difference_bytes s t = members_bytes s (λ i. not (has t i))

-- all is what this many rounds reach, and the states after one letter from there are in it, or after one letter from the front
pub record Reaching (t : Table) (S Q all front done : ℕ) : Type 0 where
  pub reached : all ≡ at_most t S Q done
  pub bytes : all < 2 ^ 64
  pub inside : (x : ℕ) → Member x front → Member x all
  pub ahead : (x : ℕ) → Member x (after t S all) → Member x all ⊎ Member x (after t S front)

module _ {t : Table} (fits : t.states < 64) {S Q all front done : ℕ} (reaching : Reaching t S Q all front done) {r new : ℕ}
    (stepped : r ≡ after t S front) (added : new ≡ difference r all) where
  -- a state after one letter is there, or new
  new_ahead : (x : ℕ) → Member x (after t S all) → Member x all ⊎ Member x new
  new_ahead x m = rw added (⊎_elim inl (λ n. in_or_left r all (rw stepped n)) (reaching.ahead x m))

  -- a new state is after one letter
  new_after : (x : ℕ) → Member x new → Member x (after t S all)
  new_after x m =
      let (q, n, c, l, e) = (in_after t fits S front).0 (rw stepped at ((in_difference r all).0 (rw added at m)).0) in
      (in_after t fits S all).1 (q, reaching.inside q n, c, l, e)

  -- what is there and the states after one letter
  next_bytes : either all (after t S all) < 2 ^ 64
  next_bytes = or_lt 64 all (after t S all) reaching.bytes (after_bytes t fits S all)

  -- the new states are what the next round adds
  next_same : either all new ≡ either all (after t S all)
  next_same =
      same_members (either all new) (either all (after t S all)) (or_lt 64 all new reaching.bytes (rw added (difference_bytes r all))) next_bytes
      (λ x. (
        λ m. (in_either all (after t S all)).1 (⊎_map (λ n. n) (new_after x) ((in_either all new).0 m)),
        λ m. (in_either all new).1 (⊎_elim inl (new_ahead x) ((in_either all (after t S all)).0 m)),
      ))

  -- nothing is new: more rounds reach no more
  pub reaching_stops : (width : ℕ) → new ≡ 0 → done ≤ width → all ≡ at_most t S Q width
  reaching_stops width e h =
      let same : either all (after t S all) ≡ all = sym next_same ∙ rw e (or_zero_r all) in
      reaching.reached ∙ sym (rounds_stay (after t S) Q done width (rw reaching.reached at same) h)

  -- something is
  pub reaching_more : {all' : ℕ} → all' ≡ either all new → Reaching t S Q all' new (done + 1)
  unfolding rounds
  reaching_more {all'} d =
      let parts : (q : ℕ) → Member q all' → Member q all ⊎ Member q new = λ q n. (in_either all new).0 (rw d at n) in
      record {
        reached = rw (add-one done, ← reaching.reached) (d ∙ next_same);
        bytes = rw (d, next_same) next_bytes;
        inside = λ x m. rw d ((in_either all new).1 (inr m));
        ahead = λ x m.
            let (q, n, c, l, e) = (in_after t fits S all').0 m in
            ⊎_elim
            (λ o. inl (rw (d, next_same) ((in_either all (after t S all)).1 (inr ((in_after t fits S all).1 (q, o, c, l, e))))))
            (λ o. inr ((in_after t fits S new).1 (q, o, c, l, e)))
            (parts q n);
      }
