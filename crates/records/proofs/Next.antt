-- What a move leads to, by the byte that stands for it.
-- Assumes nothing.
use Rattle.std.proofs.Common.{◌≡◌, ℕ, ◌+◌, ◌*◌, ◌<◌, ◌≤◌, List, length, get_or, arith, le-ltb, lt-ltb}
use lib.Arith.{digits_lt}
use Rattle.model.specs.Automaton.{next}
use Rattle.records.specs.Book.{table_of}

module _ (n m : ℕ) (moves : List ℕ) (q c : ℕ) (state : q < n) (letter : c < m) where
  -- its byte is one of the moves
  pub move_inside : n * m ≤ length moves → q * m + c < length moves
  move_inside h = omega (arith, digits_lt state letter)

  module _ (r : ℕ) (byte : r ≡ get_or moves (q * m + c) 0) where
    -- a byte that names a state
    pub next_names : r < n → r ≡ next (table_of n m moves) q c
    unfolding next
    next_names h = rw (← byte, lt-ltb q n state, lt-ltb c m letter, lt-ltb r n h)

    -- a byte that names none: the dead state
    pub next_dead : n ≤ r → n ≡ next (table_of n m moves) q c
    unfolding next
    next_dead h = rw (← byte, lt-ltb q n state, lt-ltb c m letter, le-ltb r n h)
