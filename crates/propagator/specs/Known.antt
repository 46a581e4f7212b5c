-- What the way forward remembers: where one letter leads from a set of states, and the states that moves lead to.
use Rattle.std.specs.Prelude.{ℕ, ◌-◌, ◌^◌, ◌<◌, ◌≡◌, cond, leb, get_or}
use Rattle.model.specs.Set.{Member, either, union_of, some_from}
use Rattle.model.specs.Automaton.{Table, next}
use Rattle.records.specs.Check.{some}
use Rattle.propagator.specs.declared.memo.Memo.{Memo}

-- each number that is known is f's
abbrev pub Remembers : Memo → (ℕ → ℕ) → Type 0
Remembers m f = (i : ℕ) → Member i m.known → get_or m.values i 0 ≡ f i

-- the states after the letter c from states of Q
unfoldable pub image : Table → ℕ → ℕ → ℕ
image t Q c = union_of Q (λ q. 2 ^ next t q c)

-- the states of a book and, where one of its moves names none, the dead state
unfoldable pub targets : Table → ℕ
targets t = let states = 2 ^ t.states - 1 in cond (some (leb t.states) t.moves) (either states (2 ^ t.states)) states

-- each move by a letter of the book from a state of the book leads to a state of B
abbrev pub Targets : Table → ℕ → Type 0
Targets t B = (q c : ℕ) → q < t.states → c < t.letters → Member (next t q c) B

-- where that holds, the states that one letter can lead to from states of Q: a state without a number leads to the dead state
unfoldable pub limit : ℕ → ℕ → ℕ → ℕ
limit n B Q = cond (some_from Q n) (either B (2 ^ n)) B
