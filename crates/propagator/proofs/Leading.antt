-- The loops over the letters of a set, and over the states of one: what one state does by each letter, and one letter from each state.
-- Assumes nothing.
use Prim.Native.Nat.{ℕ, ◌^◌, ◌≤◌, ◌<◌}
use mathlib.Core.Path.{◌≡◌, refl, ◌∙◌}
use mathlib.Core.Logic.{◌↔◌}
use native.Mathlib.Omega.{arith}
use borrow.Author.Tests.{le-ltb}
use lib.Dec.{T}
use lib.Pow.{pow-lt}
use Rattle.std.specs.Prelude.{filter, fold}
use Rattle.model.specs.Set.{has, Member, either, members, some_member}
use Rattle.model.specs.Automaton.{Table, next}
use Rattle.model.specs.Passes.{reach, after, before, between}
use Rattle.model.proofs.Set.{member, in_one, one_in, some_member_lem, in_members, members_bytes, union_bytes}
use Rattle.model.proofs.Automaton.{next_le}
use Rattle.model.proofs.Steps.{in_between, between_bytes}
use Rattle.bitset.specs.Listed.{listed}
use Rattle.bitset.proofs.Listed.{members_listed}
use Rattle.bitset.proofs.Laws.{same_members}
use Rattle.propagator.specs.Moves.{leads}
use Rattle.propagator.specs.Known.{image}

-- a state without a number has no move but to the dead state
pub next_dead : (t : Table) (q c : ℕ) → t.states ≤ q → t.states ≡ next t q c
unfolding next
next_dead t q c h = rw (le-ltb q t.states h)

-- a move leads to a state with a number below 64
pub next_small : (t : Table) → t.states < 64 → (q c : ℕ) → next t q c < 64
next_small t fits q c = omega (arith, next_le t q c)

-- the states after one letter are a set of 8 bytes
pub reach_bytes : (t : Table) → t.states < 64 → (S q : ℕ) → reach t S q < 2 ^ 64
unfolding reach
reach_bytes t fits S q = union_bytes S (λ c. 2 ^ next t q c) (λ c. pow-lt (next_small t fits q c))

-- from a set of states too
pub after_bytes : (t : Table) → t.states < 64 → (S Q : ℕ) → after t S Q < 2 ^ 64
unfolding after
after_bytes t fits S Q = union_bytes Q (reach t S) (reach_bytes t fits S)

-- and from these by one letter alone
pub image_bytes : (t : Table) → t.states < 64 → (Q c : ℕ) → image t Q c < 2 ^ 64
unfolding image
image_bytes t fits Q c = union_bytes Q (λ q. 2 ^ next t q c) (λ q. pow-lt (next_small t fits q c))

-- ---- the letters that lead to a set

-- the letters by which one state leads to a set
pub letters_between : (t : Table) → t.states < 64 → (S q E : ℕ) → q < 64 → members S (λ c. has E (next t q c)) ≡ between t S (2 ^ q) E
letters_between t fits S q E h =
    same_members (members S (λ c. has E (next t q c))) (between t S (2 ^ q) E) (members_bytes S (λ c. has E (next t q c))) (between_bytes t S (2 ^ q) E) (λ c. (
      λ m. let (n, k) = (in_members S (λ c. has E (next t q c))).0 m in (in_between t fits S (2 ^ q) E).1 (n, q, one_in h, member (next_small t fits q c) k),
      λ m.
          let (n, p, o, k) = (in_between t fits S (2 ^ q) E).0 m in
          let same : p ≡ q = in_one o in
          (in_members S (λ c. has E (next t q c))).1 (n, (rw same at k).there),
    ))

-- the letters found, and those of rest that lead from q to E
abbrev pub leading_letters : Table → ℕ → ℕ → ℕ → ℕ → ℕ
leading_letters t q E found rest = fold (λ a c. either a (2 ^ c)) found (filter (λ c. has E (next t q c)) (listed rest))

-- none is found yet
pub letters_start : (t : Table) → t.states < 64 → (S q E r : ℕ) → q < 64 → r ≡ S → leading_letters t q E 0 r ≡ between t S (2 ^ q) E
letters_start t fits S q E r h e = rw e (members_listed S (λ c. has E (next t q c)) ∙ letters_between t fits S q E h)

-- ---- some letter that leads to a set

-- some letter of S leads from the state q to a state of E
abbrev pub Leading : Table → ℕ → ℕ → ℕ → Type 0
Leading t S E q = (c : ℕ) × Member c S × Member (next t q c) E

-- what the test says
pub leads_exact : (t : Table) → t.states < 64 → (S E q : ℕ) → T (leads t S E q) ↔ Leading t S E q
unfolding leads
leads_exact t fits S E q = (
  λ h. let (c, m, k) = (some_member_lem S (λ c. has E (next t q c))).0 h in (c, m, member (next_small t fits q c) k),
  λ (c, m, k). (some_member_lem S (λ c. has E (next t q c))).1 (c, m, k.there),
)

-- the states from which one leads are those before
pub leading_before : (t : Table) (S Q E : ℕ) → members Q (leads t S E) ≡ before t S Q E
unfolding leads before
leading_before t S Q E = refl

-- a set of states before others is one of 8 bytes
pub before_bytes : (t : Table) (S Q E : ℕ) → before t S Q E < 2 ^ 64
unfolding before
before_bytes t S Q E = members_bytes Q (λ q. some_member S (λ c. has E (next t q c)))
