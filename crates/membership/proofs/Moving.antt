-- A word followed letter by letter, and whether the state behind it is accepting.
-- Assumes nothing.
use Rattle.std.proofs.Common.{◌≡◌, ℕ, ◌+◌, ◌<◌, List, length, get_or, drop, sym, ◌∙◌, lt-ltb}
use Rattle.std.proofs.lemmas.List.{at_drop_more}
use Rattle.model.specs.Set.{has}
use Rattle.model.specs.Automaton.{Table, Dfa, next, run}
use Rattle.model.specs.Membership.{contains, accepts}
use Rattle.model.proofs.Automaton.{dead_stays}

module _ (t : Table) (start : ℕ) (w : List ℕ) (i q r : ℕ) (moved : r ≡ next t q (get_or w i 0)) (h : i < length w) (same : run t q (drop i w) ≡ run t start w) where
  -- the letters behind the next one lead from there where the whole word leads
  pub run_more : run t r (drop (i + 1) w) ≡ run t start w
  run_more = rw (moved, ← at_drop_more (run t q) w i 0 h) same

  -- where that is the dead state, so does the word
  pub run_dies : r ≡ t.states → t.states ≡ run t start w
  run_dies e = sym (dead_stays t (drop (i + 1) w)) ∙ (rw e at run_more)

-- where the state behind a word is below 64, the book accepts the word if that state is accepting
pub accepts_there : (b : Dfa) (w : List ℕ) → run b.table b.start w < 64 → accepts b w ≡ has b.accepting (run b.table b.start w)
unfolding contains accepts
accepts_there b w h = rw (lt-ltb (run b.table b.start w) 64 h)
