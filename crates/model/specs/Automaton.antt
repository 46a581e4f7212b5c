-- Deterministic automata (01: a book): move, run, acceptance (01, "Letters, codes, blocks").
use Rattle.std.specs.Prelude.{ℕ, ◌+◌, ◌*◌, cond, ◌&&◌, List, [], ◌∷◌, ltb, get_or}
use Rattle.model.specs.Set.{Member}

-- n states, m letters, and n times m moves, state by state
pub record Table : Type 0 where
  pub states : ℕ
  pub letters : ℕ
  pub moves : List ℕ

-- a table with a start and a set of accepting states
pub record Dfa : Type 0 where
  pub table : Table
  pub start : ℕ
  pub accepting : ℕ

-- the state after one letter; where no move names a state, that is the dead state, whose number is n
unfoldable pub next : Table → ℕ → ℕ → ℕ
next t q c =
    let r = get_or t.moves (q * t.letters + c) 0 in
    cond (ltb q t.states && ltb c t.letters && ltb r t.states) r t.states

-- the state after the letters of a word, followed move by move
abbrev pub run : Table → ℕ → List ℕ → ℕ
run t q [] = q
run t q (c ∷ w) = run t (next t q c) w

-- the book accepts the word
abbrev pub Accepts : Dfa → List ℕ → Type 0
Accepts b w = Member (run b.table b.start w) b.accepting
