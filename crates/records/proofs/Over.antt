-- New bytes over the first ones of a buffer.
-- Assumes nothing.
use Rattle.std.proofs.Common.{◌≡◌, ℕ, ◌+◌, ◌-◌, ◌≤◌, List, [], ◌++◌, length, take, drop, append_assoc, append-nil, arith, length-append, length-drop, drop_of_length-le, take_all, drop-drop}
use lib.Seq.{take-append_seam, drop-append_seam}
use Rattle.records.specs.Bytes.{over}

-- its first bytes are the new ones
pub take_over : (new old : List ℕ) → take (length new) (over new old) ≡ new
unfolding over
take_over new old = take-append_seam new (drop (length new) old)

-- the others keep their contents
pub drop_over : (new old : List ℕ) → drop (length new) (over new old) ≡ drop (length new) old
unfolding over
drop_over new old = drop-append_seam new (drop (length new) old)

-- and it keeps its length
pub length_over : (new old : List ℕ) → length new ≤ length old → length (over new old) ≡ length old
unfolding over
length_over new old h = simp (length-append, length-drop) (omega arith)

-- what lies from element n on, as a part of a slice is lent
pub part_rest : (n : ℕ) (l : List ℕ) → take (length l - n) (drop n l) ≡ drop n l
part_rest n l = take_all (length l - n) (drop n l) (omega (arith, length-drop n l))

-- bytes over the rest, behind bytes over the first ones
both_over : (a b old : List ℕ) → a ++ (over b (drop (length a) old) ++ []) ≡ over (a ++ b) old
unfolding over
both_over a b old = simp (append-nil, append_assoc, drop-drop, length-append)

-- bytes b written over the part behind the new bytes a, as a part is lent and comes back: both are written
pub part_over : (a b old top part : List ℕ) → length a + length b ≤ length old → top ≡ over a old
    → part ≡ over b (take (length top - length a) (drop (length a) top))
    → take (length a) top ++ (part ++ drop (length top - length a) (drop (length a) top)) ≡ over (a ++ b) old
part_over a b old top part h e f =
    let n = length a in
    let size : length top ≡ length old = rw e (length_over a old (omega arith)) in
    let front : take n top ≡ a = rw e (take_over a old) in
    let behind : drop n top ≡ drop n old = rw e (drop_over a old) in
    let few : length (drop n old) ≤ length top - n = omega (arith, length-drop n old) in
    let none : drop (length top - n) (drop n old) ≡ [] = drop_of_length-le (drop n old) few in
    rw (f, front, part_rest n top, behind, none) (both_over a b old)
