-- What the checks leave (01, "The four operations and when they turn back"): sound automata and well-formed records.
use Rattle.std.specs.Prelude.{◌≡◌, ℕ, ◌+◌, ◌*◌, ◌<◌, ◌≤◌, ◌⊎◌, List, length, slice_index}
use Rattle.model.specs.Set.{Member}
use Rattle.model.specs.DashedString.{Each, Bounded}
use Rattle.model.specs.Automaton.{Dfa}
use Rattle.model.specs.Size.{uppers}
use Rattle.records.specs.Check.{length_field, kind}
use Rattle.records.specs.Book.{book_head, book_of}
use Rattle.records.specs.Mask.{count, mask_of}

-- an automaton that passes checks 4 to 6
pub record Sound (b : Dfa) : Type 0 where
  -- check 4: at least one state
  pub some_state : 0 < b.table.states
  -- check 4: at most 63 states
  pub states : b.table.states < 64
  -- check 4: at least one letter
  pub some_letter : 0 < b.table.letters
  -- check 4: at most 64 letters
  pub letters : b.table.letters ≤ 64
  -- check 5: a move for each state and letter
  pub moves : length b.table.moves ≡ b.table.states * b.table.letters
  -- check 6: the start is a state
  pub start : b.start < b.table.states
  -- check 6: each accepting state is a state
  pub accepting : (q : ℕ) → Member q b.accepting → q < b.table.states
  -- check 6: each move names a state, or is 255
  pub named : (i : ℕ) → i < length b.table.moves → (slice_index b.table.moves i < b.table.states) ⊎ (slice_index b.table.moves i ≡ 255)

-- a well-formed kind 1 record
pub record BookRecord (bs : List ℕ) : Type 0 where
  -- check 1: the length field is the number of bytes
  pub framed : length_field bs ≡ length bs
  -- check 2: a book
  pub kind : kind bs ≡ 1
  -- checks 3 and 5: the bytes of its head and moves, and no others
  pub size : length bs ≡ 15 + (book_head bs).states * (book_head bs).letters
  -- checks 4 and 6
  pub sound : Sound (book_of bs)

-- a well-formed kind 2 record
pub record MaskRecord (bs : List ℕ) : Type 0 where
  -- check 1: the length field is the number of bytes
  pub framed : length_field bs ≡ length bs
  -- check 2: a mask
  pub kind : kind bs ≡ 2
  -- check 4: at most 1,024 blocks
  pub few : count bs ≤ 1024
  -- checks 3 and 5: the bytes of its head and blocks, and no others
  pub size : length bs ≡ 6 + 12 * count bs
  -- check 7: l ≤ u
  pub bounds : Each Bounded (mask_of bs)
  -- check 8: uppers that sum to at most 1,024
  pub sum : uppers (mask_of bs) ≤ 1024
