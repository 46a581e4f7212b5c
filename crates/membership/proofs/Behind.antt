-- A mask with one block more behind it, and the pieces of that block by the positions of a word.
-- Assumes nothing.
use Rattle.std.proofs.lemmas.Grind.{common_steps}
use Rattle.std.proofs.Common.{◌≡◌, ℕ, zero, suc, ◌+◌, ◌-◌, ◌<◌, ◌≤◌, ◌↔◌, List, [], ◌∷◌, ◌++◌, length, get_or, take, drop, refl, ap, append_assoc, append-nil, arith, length-append, length-drop, take-append-drop, length-take-le, get_or-drop, get_or-take, take-take}
use lib.Seq.{take-append_seam, drop-append_seam}
use Rattle.model.specs.declared.Block.{Block}
use Rattle.model.specs.Set.{Member}
use Rattle.model.specs.DashedString.{Within, nil, cons, Piece, Matches}
use Rattle.model.proofs.Words.{Concat, matches_nil, matches_cons}

-- a word of a mask with a block behind is a word of the mask and behind it a piece of the block
matches_behind : (xs : List Block) (x : Block) (w : List ℕ) → Matches (xs ++ x ∷ []) w ↔ Concat (Matches xs) (Piece x) w
matches_behind [] x w = (
  λ m. let (p, q, a, n, e) = matches_cons.0 m in ([], w, (matches_nil []).1 refl, rw (← e, (matches_nil q).0 n, append-nil) a, refl),
  λ (p, q, n, a, e). matches_cons.1 (q, [], a, (matches_nil []).1 refl, cc (append-nil q, (matches_nil p).0 n)),
)
matches_behind (y ∷ xs) x w = (
  λ m.
      let (p, r, a, n, e) = matches_cons.0 m in
      let (q, s, k, b, d) = (matches_behind xs x r).0 n in
      (p ++ q, s, matches_cons.1 (p, q, a, k, refl), b, cc (append_assoc p q s)),
  λ (r, s, m, b, e).
      let (p, q, a, k, d) = matches_cons.0 m in
      matches_cons.1 (p, q ++ s, a, (matches_behind xs x (q ++ s)).1 (q, s, k, b, refl), cc (append_assoc p q s)),
)

-- a word of two languages, one behind the other, is cut at some position
concat_at : (A B : List ℕ → Type 0) (w : List ℕ) → Concat A B w ↔ ((i : ℕ) × (i ≤ length w) × A (take i w) × B (drop i w))
concat_at A B w = (
  λ (p, q, a, b, e).
      (length p, omega (arith, ap length e, length-append p q), rw (← e, take-append_seam p q) a, rw (← e, drop-append_seam p q) b),
  λ (i, l, a, b). (take i w, drop i w, a, b, take-append-drop i w),
)

-- up to position j: the mask spells up to some position, and the block from there
pub behind_at : (xs : List Block) (x : Block) (w : List ℕ) (j : ℕ) → j ≤ length w
    → Matches (xs ++ x ∷ []) (take j w) ↔ ((i : ℕ) × (i ≤ j) × Matches xs (take i w) × Piece x (drop i (take j w)))
behind_at xs x w j h = grind (arith, common_steps, matches_behind xs x (take j w), concat_at (Matches xs) (Piece x) (take j w), take-take, length-take-le j w h)

-- each letter of a word within a set is in the set
within_letters : {S : ℕ} {w : List ℕ} → Within S w → (k : ℕ) → k < length w → Member (get_or w k 0) S
within_letters nil k h = absurd (omega arith)
within_letters (cons m v) zero h = m
within_letters (cons m v) (suc k) h = within_letters v k (omega arith)

-- and a word whose letters are is within it
letters_within : (S : ℕ) (w : List ℕ) → ((k : ℕ) → k < length w → Member (get_or w k 0) S) → Within S w
letters_within S [] f = nil
letters_within S (c ∷ w) f = cons (f 0 (omega arith)) (letters_within S w (λ k h. f (suc k) (omega arith)))

-- the block spells the letters from position i to j
pub piece_at : (x : Block) (w : List ℕ) (i j : ℕ) → i ≤ j → j ≤ length w
    → Piece x (drop i (take j w)) ↔ ((i + x.lower ≤ j) × (j ≤ i + x.upper) × ((k : ℕ) → i ≤ k → k < j → Member (get_or w k 0) x.base))
piece_at x w i j l h = (
  λ a. (
    omega (arith, size, a.enough),
    omega (arith, size, a.few),
    λ k g m. grind (arith, size, letter (k - i), within_letters a.within (k - i)),
  ),
  λ (b, u, f). grind (arith, size, letters_within x.base (drop i (take j w)) (λ n g. rw (letter n (omega (arith, size))) (f (i + n) (omega arith) (omega (arith, size))))),
)
  where
    size : length (drop i (take j w)) ≡ j - i
    size = rw (length-drop i (take j w), length-take-le j w h)

    letter : (n : ℕ) → i + n < j → get_or (drop i (take j w)) n 0 ≡ get_or w (i + n) 0
    letter n g = rw (get_or-drop, get_or-take)
