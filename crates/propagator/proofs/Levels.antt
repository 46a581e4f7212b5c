-- Steps 3 and 4: the levels of b, the least b, and what an optional part becomes.
-- Assumes nothing.
use Prim.Native.Nat.{ℕ, zero, suc, ◌+◌, ◌-◌, ◌^◌, ◌≤◌, ◌<◌}
use mathlib.Core.Path.{◌≡◌, refl, sym, ◌∙◌, subst}
use mathlib.Core.Logic.{◌⊎◌, inl, inr, ⊎_elim}
use mathlib.Core.Bool.{Bool, true, false}
use native.Mathlib.Numerals.{add-one}
use native.Mathlib.Omega.{arith}
use lib.Bits.{and_lt, or_lt}
use Rattle.model.specs.Set.{has, Member, both, either, some_member, members}
use Rattle.model.specs.DashedString.{block}
use Rattle.model.specs.Automaton.{Table}
use Rattle.model.specs.Passes.{before, between, rounds, at_most, to_end, first, fewest, optional, pruned, backward}
use Rattle.model.proofs.Set.{in_both, in_either, in_members, members_bytes}
use Rattle.model.proofs.Steps.{rounds_stay, in_before}
use Rattle.bitset.specs.Difference.{difference}
use Rattle.bitset.proofs.Laws.{same_members, shared_test, in_difference}
use Rattle.propagator.specs.Moves.{leads}
use Rattle.propagator.proofs.Gathering.{inside_or_not}
use Rattle.propagator.proofs.Leading.{before_bytes, leads_exact}

-- ---- the next level

-- the level, and the states not yet in it from which a letter leads there
pub level_raised : (t : Table) → t.states < 64 → (S R level others more : ℕ) → level < 2 ^ 64 → others ≡ difference R level
    → more ≡ members others (leads t S level) → either level more ≡ either level (before t S R level)
level_raised t fits S R level others more bytes e d =
    same_members (either level more) (either level (before t S R level)) (or_lt 64 level more bytes (rw d (members_bytes others (leads t S level))))
    (or_lt 64 level (before t S R level) bytes (before_bytes t S R level)) (λ q. (
      λ m. (in_either level (before t S R level)).1 (⊎_elim inl (λ n. inr (old n)) ((in_either level more).0 m)),
      λ m. (in_either level more).1 (⊎_elim inl new ((in_either level (before t S R level)).0 m)),
    ))
  where
    old : {q : ℕ} → Member q more → Member q (before t S R level)
    old {q} m =
        let (n, l) = (in_members others (leads t S level)).0 (rw d at m) in
        let (c, k, g) = (leads_exact t fits S level q).0 l in
        (in_before t fits S R level).1 (((in_difference R level).0 (rw e at n)).0, c, k, g)

    new : {q : ℕ} → Member q (before t S R level) → Member q level ⊎ Member q more
    new {q} m =
        let (n, c, k, g) = (in_before t fits S R level).0 m in
        ⊎_elim inl (λ o. inr (rw d ((in_members others (leads t S level)).1 (rw e ((in_difference R level).1 (n, o)), (leads_exact t fits S level q).1 (c, k, g)))))
        (inside_or_not level n.small)

-- ---- level by level

module _ (t : Table) (S R E : ℕ) where
  -- the level above
  pub level_next : (d level next : ℕ) → level ≡ to_end t S R E d → next ≡ either level (before t S R level) → next ≡ to_end t S R E (d + 1)
  unfolding rounds
  level_next d level next e f = rw (add-one d, f, e)

  -- a level is one of 8 bytes
  level_bytes : (d : ℕ) → E < 2 ^ 64 → to_end t S R E d < 2 ^ 64
  unfolding rounds
  level_bytes zero h = h
  level_bytes (suc d) h = or_lt 64 (to_end t S R E d) (before t S R (to_end t S R E d)) (level_bytes d h) (before_bytes t S R (to_end t S R E d))

  -- a level repeats: all above are that level
  pub level_stays : (d n level next : ℕ) → level ≡ to_end t S R E d → next ≡ either level (before t S R level) → next ≡ level → d ≤ n
      → level ≡ to_end t S R E n
  level_stays d n level next e f g h = e ∙ sym (rounds_stay (before t S R) E d n (rw e at (sym f ∙ g)) h)

-- ---- the least b

-- some state of Q is of level d
abbrev near : Table → ℕ → ℕ → ℕ → ℕ → ℕ → Bool
near t S R E Q d = some_member Q (has (to_end t S R E d))

-- no state of Q is below the level, whose number is height
pub record Searching (t : Table) (S R E Q w level height : ℕ) : Type 0 where
  pub bytes : level < 2 ^ 64
  pub same : level ≡ to_end t S R E height
  pub least : fewest t S R E Q w ≡ first (w - height) height (near t S R E Q)

module _ {t : Table} {S R E Q w level height : ℕ} (searching : Searching t S R E Q w level height) where
  -- a state of Q is of this level
  pub searching_met : (m : ℕ) → Q < 2 ^ 64 → height < w → m ≡ both Q level → ¬ (m ≡ 0) → height ≡ fewest t S R E Q w
  unfolding first
  searching_met m b h e n =
      let more : w - height ≡ suc (w - suc height) = omega arith in
      let here : near t S R E Q height ≡ true = rw searching.same at ((shared_test Q level b).1 (rw (← e) n)) in
      sym (rw (more, first, here) at searching.least)

  -- none is: one level more
  pub searching_more : (m next : ℕ) → Q < 2 ^ 64 → height < w → m ≡ both Q level → m ≡ 0 → next ≡ either level (before t S R level)
      → Searching t S R E Q w next (height + 1)
  unfolding first
  searching_more m next b h e n f =
      let more : w - height ≡ suc (w - suc height) = omega arith in
      let here : near t S R E Q height ≡ false = rw searching.same at ((shared_test Q level b).0 (sym e ∙ n)) in
      record {
        bytes = rw f (or_lt 64 level (before t S R level) searching.bytes (before_bytes t S R level));
        same = level_next t S R E height level next searching.same f;
        least = rw (add-one height) (rw (more, first, here) at searching.least);
      }

  -- none is below w
  pub searching_ends : height ≡ w → w ≡ fewest t S R E Q w
  unfolding first
  searching_ends e =
      let none : w - height ≡ 0 = omega arith in
      sym (rw (none, e) at searching.least)

-- ---- what an optional part becomes

module _ (t : Table) (fits : t.states < 64) (S R E : ℕ) (within : both R E ≡ E) where
  -- a state of a level is one of R
  level_within : (d : ℕ) {q : ℕ} → Member q (to_end t S R E d) → Member q R
  unfolding rounds
  level_within zero {q} m = ((in_both R E {i = q}).0 (rw within m)).0
  level_within (suc d) {q} m =
      ⊎_elim (level_within d {q = q}) (λ k. ((in_before t fits S R (to_end t S R E d)).0 k).0)
      ((in_either (to_end t S R E d) (before t S R (to_end t S R E d))).0 m)

  -- so a level has no other states than its own of R
  level_both : (d : ℕ) → R < 2 ^ 64 → E < 2 ^ 64 → both R (to_end t S R E d) ≡ to_end t S R E d
  level_both d a b =
      let level = to_end t S R E d in
      let bytes = level_bytes t S R E d b in
      same_members (both R level) level (and_lt 64 R level a bytes) bytes
      (λ q. (λ h. ((in_both R level).0 h).1, λ h. (in_both R level).1 (level_within d h, h)))

-- an optional part of no letter
pub optional_none : (t : Table) (S Q E w s : ℕ) → w ≡ 0 → s ≡ both Q E
    → (block 0 0 0 ≡ pruned t Q (optional S w) E) × (s ≡ backward t Q (optional S w) E)
unfolding rounds pruned backward
optional_none t S Q E w s e f = rw (e, f) (refl, refl)

-- an optional part of at most w letters, by level w - 1
pub optional_some : (t : Table) (S Q R E w level letters kept lower all s : ℕ) → t.states < 64 → ¬ (w ≡ 0)
    → R ≡ at_most t S Q w → both R E ≡ E → R < 2 ^ 64 → E < 2 ^ 64 → level ≡ to_end t S R E (w - 1)
    → letters ≡ between t S R level → kept ≡ before t S R level → lower ≡ fewest t S R E Q w → all ≡ either level kept → s ≡ both Q all
    → (block letters lower w ≡ pruned t Q (optional S w) E) × (s ≡ backward t Q (optional S w) E)
unfolding rounds pruned backward
optional_some t S Q R E zero level letters kept lower all s fits n r within a b e f g h i j = absurd (n refl)
optional_some t S Q R E (suc v) level letters kept lower all s fits n r within a b e f g h i j =
    let back : suc v - 1 ≡ v = omega arith in
    let same : level ≡ to_end t S R E v = rw back at e in
    let whole = level_both t fits S R E within v a b in
    let P : ℕ → Type 0 = λ X. s ≡ both Q (to_end t S X E (suc v)) in
    (rw (f, h, ← r, same, whole), subst P r (rw (j, i, g, same)))
