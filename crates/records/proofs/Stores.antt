-- Runs of stores, and what the loop over the blocks of a mask has written.
-- Assumes nothing.
use Rattle.std.proofs.Common.{◌≡◌, ℕ, zero, suc, ◌+◌, ◌-◌, ◌*◌, ◌≤◌, List, [], ◌∷◌, ◌++◌, length, take, drop, set, refl, ap, ◌∙◌, append_assoc, append-nil, add-zero, zero-add, add-one, arith, length-append, ◌<◌, take_all}
use lib.Seq.{sets, sets-eq}
use Rattle.model.specs.declared.Block.{Block}
use lib.Seq.{take-suc}
use Rattle.std.proofs.lemmas.List.{length-take-le}
use Rattle.model.specs.DashedString.{block, block_at, values}
use Rattle.records.specs.Bytes.{bytes_of, over}
use Rattle.records.specs.Written.{block_bytes, blocks_bytes, head_bytes, mask_bytes}
use Rattle.records.proofs.Numbers.{length_bytes}
use Rattle.records.proofs.Over.{part_over}
use Rattle.records.proofs.RoundTrip.{length_blocks_bytes}

-- two runs one behind the other are one run
sets_append : (l : List ℕ) (i : ℕ) (a b : List ℕ) → sets (sets l i a) (i + length a) b ≡ sets l i (a ++ b)
sets_append l i [] b = rw add-zero
sets_append l i (x ∷ a) b = let e : i + suc (length a) ≡ suc i + length a = omega arith in rw (e, sets_append (set l i x) (suc i) a b)

-- three numbers stored one behind the other
pub three_stored : (l l₁ l₂ l₃ : List ℕ) (at j x k y n z : ℕ) → l₁ ≡ sets l at (bytes_of j x) → l₂ ≡ sets l₁ (at + j) (bytes_of k y)
    → l₃ ≡ sets l₂ (at + (j + k)) (bytes_of n z) → l₃ ≡ sets l at (bytes_of j x ++ bytes_of k y ++ bytes_of n z)
three_stored l l₁ l₂ l₃ at j x k y n z e₁ e₂ e₃ =
    let first = sets_append l at (bytes_of j x) (bytes_of k y) in
    let second = sets_append l at (bytes_of j x ++ bytes_of k y) (bytes_of n z) in
    rw (e₃, e₂, e₁) (rw (length-append, length_bytes j x, length_bytes k y, ← rw (length_bytes j x) at first) at second)

-- from byte 0 on, a run lies over the first bytes
sets_over : (new old : List ℕ) → length new ≤ length old → sets old 0 new ≡ over new old
unfolding over
sets_over new old h = sets-eq new old 0 (omega arith) ∙ rw zero-add

-- one value more
pub values_more : (f : ℕ → Block) (i : ℕ) → values f (suc i) ≡ values f i ++ f i ∷ []
values_more f zero = refl
values_more f (suc i) = ap (◌∷◌ (f 0)) (values_more (λ j. f (suc j)) i)

-- the bytes of one block more
blocks_more : (xs : List Block) (x : Block) → blocks_bytes (xs ++ x ∷ []) ≡ blocks_bytes xs ++ block_bytes x
unfolding blocks_bytes
blocks_more [] x = append-nil (block_bytes x)
blocks_more (y ∷ xs) x = rw (blocks_more xs x, append_assoc)

-- the first i blocks are stored from byte 0 on, and one block behind them
pub stored_more : (xs : List Block) (old out next : List ℕ) (i : ℕ) → i < length xs → out ≡ sets old 0 (blocks_bytes (take i xs))
    → next ≡ sets out (12 * i) (block_bytes (block_at xs i)) → next ≡ sets old 0 (blocks_bytes (take (i + 1) xs))
stored_more xs old out next i h stored e =
    let here : 12 * i ≡ 0 + length (blocks_bytes (take i xs)) = omega (arith, length_blocks_bytes (take i xs), length-take-le i xs (omega arith)) in
    let more : blocks_bytes (take (i + 1) xs) ≡ blocks_bytes (take i xs) ++ block_bytes (block_at xs i)
    = rw (add-one i, take-suc xs i (block 0 0 0) h) (blocks_more (take i xs) (block_at xs i)) in
    rw (e, stored, here, sets_append, more)

-- all are stored
pub stored_all : (xs : List Block) (old out : List ℕ) (i : ℕ) → 12 * length xs ≤ length old → length xs ≤ i
    → out ≡ sets old 0 (blocks_bytes (take i xs)) → out ≡ over (blocks_bytes xs) old
stored_all xs old out i l h e =
    rw (take_all i xs h) at e ∙ sets_over (blocks_bytes xs) old (omega (arith, length_blocks_bytes xs))

-- the head is written, then the blocks behind it, in the part from byte 6 on: the whole mask is
pub mask_stored : (xs : List Block) (old head part : List ℕ) → 6 + 12 * length xs ≤ length old → head ≡ sets old 0 (head_bytes (length xs))
    → part ≡ over (blocks_bytes xs) (take (length head - 6) (drop 6 head))
    → take 6 head ++ (part ++ drop (length head - 6) (drop 6 head)) ≡ over (mask_bytes xs) old
unfolding bytes_of head_bytes mask_bytes
mask_stored xs old head part h e written =
    let six : head ≡ over (head_bytes (length xs)) old = e ∙ sets_over (head_bytes (length xs)) old (omega arith) in
    part_over (head_bytes (length xs)) (blocks_bytes xs) old head part (omega (arith, length_blocks_bytes xs)) six written
