-- Kind 1 records: the automaton that one is, and the book checks (01, "Records" and "The four operations").
use Rattle.std.specs.Prelude.{ℕ, ◌+◌, ◌*◌, Bool, not, ◌&&◌, ◌||◌, Option, List, length, drop, ◌==◌, nat_le, nat_lt}
use Rattle.model.specs.declared.Refusal.{Refusal}
use Rattle.model.specs.declared.Refusal.TheVariants.{Unframed, Kind, Head, OutOfRange, Size, Unnamed}
use Rattle.model.specs.Refusal.{accepted, refuse}
use Rattle.model.specs.Set.{some_from}
use Rattle.model.specs.Automaton.{Table, Dfa}
use Rattle.records.specs.declared.automaton.BookHead.{BookHead}
use Rattle.records.specs.Bytes.{byte_at, number_at}
use Rattle.records.specs.Check.{some, kind, unframed}

-- the numbers of a kind 1 record: n, m, start, accepting states
unfoldable pub book_head : List ℕ → BookHead
book_head bs = record { states = byte_at bs 4; letters = byte_at bs 5; start = byte_at bs 6; accepting = number_at 8 bs 7 }

-- its moves, state by state
unfoldable pub moves_of : List ℕ → List ℕ
moves_of bs = drop 15 bs

-- n states and m letters, with these moves
abbrev pub table_of : ℕ → ℕ → List ℕ → Table
table_of n m moves = record { states = n; letters = m; moves = moves }

-- the automaton of a head and its moves
abbrev pub automaton_of : BookHead → List ℕ → Dfa
automaton_of b moves = record { table = table_of b.states b.letters moves; start = b.start; accepting = b.accepting }

-- the automaton that a kind 1 record is
abbrev pub book_of : List ℕ → Dfa
book_of bs = automaton_of (book_head bs) (moves_of bs)

-- outside the range from 1 to most
abbrev pub outside : ℕ → ℕ → Bool
outside most x = x == 0 || nat_lt most x

-- check 4: n or m outside its range
unfoldable pub out_of_range : BookHead → Bool
out_of_range b = outside 63 b.states || outside 64 b.letters

-- the move names no state, and isn't 255
abbrev pub stray : ℕ → ℕ → Bool
stray n r = nat_le n r && not (r == 255)

-- check 6: a start, an accepting bit or a move that names no state
unfoldable pub unnamed : BookHead → List ℕ → Bool
unnamed b moves = nat_le b.states b.start || some_from b.accepting b.states || some (stray b.states) moves

-- the book checks, 1 to 6, of a record with this head
unfoldable pub book_checks : List ℕ → BookHead → Option Refusal
book_checks bs b =
    refuse (unframed bs) Unframed
    (refuse (not (kind bs == 1)) Kind
    (refuse (nat_lt (length bs) 15) Head
    (refuse (out_of_range b) OutOfRange
    (refuse (not (length bs == 15 + b.states * b.letters)) Size
    (refuse (unnamed b (moves_of bs)) Unnamed
    accepted)))))

-- what refuses a slice of bytes as a book
abbrev pub book_refusal : List ℕ → Option Refusal
book_refusal bs = book_checks bs (book_head bs)
