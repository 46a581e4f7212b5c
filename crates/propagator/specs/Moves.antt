-- Where the letters of a set lead.
use Rattle.std.specs.Prelude.{ℕ, zero, suc, ◌<◌, Bool}
use Rattle.model.specs.Set.{has, Member, some_member}
use Rattle.model.specs.Automaton.{Table, next}
use Rattle.model.specs.Passes.{after}

-- each member of the set is below m
abbrev pub Below : ℕ → ℕ → Type 0
Below m S = (c : ℕ) → Member c S → c < m

-- some letter of S leads from the state q to a state of E
unfoldable pub leads : Table → ℕ → ℕ → ℕ → Bool
leads t S E q = some_member S (λ c. has E (next t q c))

-- step 1, Qj: the states after exactly j letters of S from states of Q
unfoldable pub exactly : Table → ℕ → ℕ → ℕ → ℕ
exactly t S Q zero = Q
exactly t S Q (suc j) = after t S (exactly t S Q j)
