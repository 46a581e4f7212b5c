-- Try's two tests say what they ask (01, "Try"): the mask spells the word, the book accepts it.
-- Assumes nothing.
use Rattle.std.proofs.Common.{◌≡◌, ℕ, suc, Bool, ◌&&◌, T, ◌↔◌, List, [], ◌∷◌, ◌++◌, length, take, drop, ap, arith, eqb→eq, length-append, take-append-drop, drop_of_length-le}
use lib.Seq.{take-append_seam, drop-append_seam}
use Rattle.model.specs.declared.Block.{Block}
use Rattle.model.specs.Set.{Member, some_below}
use Rattle.model.specs.DashedString.{Within, nil, cons, Piece, Matches}
use Rattle.model.specs.Automaton.{Dfa, Accepts, run}
use Rattle.model.specs.Membership.{contains, within, piece, spells, accepts}
use Rattle.model.proofs.Set.{T_and, some_below_lem}
use Rattle.model.proofs.Words.{matches_nil, matches_cons}

-- the number is in the set
pub contains_exact : (s i : ℕ) → T (contains s i) ↔ Member i s
unfolding contains
contains_exact = grind (arith, T_and)

-- the first letter of a word within a set, and the rest
within_cons : {S c : ℕ} {w : List ℕ} → Within S (c ∷ w) → Member c S × Within S w
within_cons = grind arith

-- each letter of the word is in the set
within_exact : (S : ℕ) (w : List ℕ) → T (within S w) ↔ Within S w
unfolding within
within_exact S [] = (λ h. nil, λ v. tt)
within_exact S (c ∷ w) = (
  λ h. let (a, b) = (T_and (contains S c) (within S w)).0 h in cons ((contains_exact S c).0 a) ((within_exact S w).0 b),
  λ v. let (m, v) = within_cons v in (T_and (contains S c) (within S w)).1 ((contains_exact S c).1 m, (within_exact S w).1 v),
)

-- the block spells the word
piece_exact : (x : Block) (p : List ℕ) → T (piece x p) ↔ Piece x p
unfolding piece
piece_exact = grind (arith, T_and, within_exact)

-- the mask spells the word
pub spells_exact : (xs : List Block) (w : List ℕ) → T (spells xs w) ↔ Matches xs w
unfolding spells
spells_exact [] w = (
  λ h. (matches_nil w).1 (drop_of_length-le w {i = 0} (omega (arith, eqb→eq (length w) 0 h))),
  λ m. rw ((matches_nil w).0 m) tt,
)
spells_exact (x ∷ xs) w = (
  λ h.
      let (k, l, t) = (some_below_lem (suc (length w)) cut).0 h in
      let (a, b) = (T_and (piece x (take k w)) (spells xs (drop k w))).0 t in
      matches_cons.1 (take k w, drop k w, (piece_exact x (take k w)).0 a, (spells_exact xs (drop k w)).0 b, take-append-drop k w),
  λ m. let (p, q, a, b, e) = matches_cons.0 m in found p q e ((T_and (piece x p) (spells xs q)).1 ((piece_exact x p).1 a, (spells_exact xs q).1 b)),
)
  where
    cut : ℕ → Bool
    cut k = piece x (take k w) && spells xs (drop k w)

    found : (p q : List ℕ) → p ++ q ≡ w → T (piece x p && spells xs q) → T (some_below (suc (length w)) cut)
    found p q e t =
        let here : T (cut (length p)) = rw (← e, take-append_seam p q, drop-append_seam p q) t in
        (some_below_lem (suc (length w)) cut).1 (length p, omega (arith, ap length e, length-append p q), here)

-- the book accepts the word
pub accepts_exact : (b : Dfa) (w : List ℕ) → T (accepts b w) ↔ Accepts b w
unfolding accepts
accepts_exact b w = contains_exact b.accepting (run b.table b.start w)
