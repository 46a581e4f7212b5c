-- A book and a mask as values that were read: what they stand for, and what their readers answer (01, "Records", and the checks).
use Rattle.std.specs.Prelude.{ℕ, ◌≡◌, Some, Result, Ok, Err, List}
use Rattle.model.specs.declared.Block.{Block}
use Rattle.model.specs.declared.Refusal.{Refusal}
use Rattle.model.specs.Refusal.{accepted}
use Rattle.model.specs.Automaton.{Dfa}
use Rattle.model.specs.Automaton as spec
use Rattle.records.specs.declared.table.Table.{Table}
use Rattle.records.specs.declared.book.Book.{Book}
use Rattle.records.specs.declared.mask.Mask.{Mask}
use Rattle.records.specs.declared.totals.Totals.{Totals}
use Rattle.records.specs.Book.{table_of, book_of, book_refusal}
use Rattle.records.specs.Mask.{mask_of, mask_refusal, totals_of}

-- n states and m letters, with the moves that are lent
abbrev pub table : Table → spec.Table
table t = table_of t.states t.letters t.moves.now

-- the automaton that a book is
abbrev pub automaton : Book → Dfa
automaton b = record { table = table b.table; start = b.start; accepting = b.accepting }

-- the blocks of a mask
abbrev pub blocks_of : Mask → List Block
blocks_of m = mask_of m.bytes.now

-- what reading a slice of bytes as a book answers: the automaton that it is, or its refusal
abbrev pub ReadsBook : List ℕ → Result Book Refusal → Type 0
ReadsBook bs (Ok b) = (book_refusal bs ≡ accepted) × (automaton b ≡ book_of bs)
ReadsBook bs (Err r) = book_refusal bs ≡ Some r

-- what reading a slice of bytes as a mask answers: a mask of these bytes and the totals of its blocks, or its refusal
abbrev pub ReadsMask : List ℕ → Result (Mask × Totals) Refusal → Type 0
ReadsMask bs (Ok (m, t)) = (mask_refusal bs ≡ accepted) × (m.bytes.now ≡ bs) × (t ≡ totals_of (mask_of bs))
ReadsMask bs (Err r) = mask_refusal bs ≡ Some r
