-- What the greatest of some numbers tells, as that of the moves of a book.
-- Assumes nothing.
use Rattle.std.proofs.Common.{◌≡◌, ℕ, suc, ◌+◌, ◌%◌, ◌^◌, ◌<◌, Bool, true, false, ◌||◌, leb, max, Option, None, Some, MatchOption, is_some, List, [], ◌∷◌, length, get_or, map, fold, refl, sym, ap, ◌∙◌, arith}
use Rattle.std.proofs.lemmas.Bool.Decides.{nat_tests}
use mathlib.Core.Bool.{true≢false}
use borrow.Author.Tests.{leb-true, leb-false, le-leb, lt-leb}
use Rattle.std.proofs.Math.Bool.{or-false, or_assoc}
use Rattle.std.specs.List.{reduce}
use Rattle.std.specs.Option.{option_map, unwrap_or}
use Rattle.records.specs.Check.{some}
use Rattle.records.specs.Book.{stray}

-- the greater of two is at least n where one of them is
at_least : (n x y : ℕ) → leb n (max x y) ≡ (leb n x || leb n y)
at_least n x y = go (leb n x) (leb n y) refl refl
  where
    go : (v w : Bool) → leb n x ≡ v → leb n y ≡ w → leb n (max x y) ≡ (v || w)
    go true w d e = le-leb n (max x y) (omega (arith, leb-true n x d))
    go false true d e = le-leb n (max x y) (omega (arith, leb-true n y e))
    go false false d e = lt-leb n (max x y) (omega (arith, leb-false n x d, leb-false n y e))

-- the greatest of a list is at least n where some number is
greatest_at_least : (n x : ℕ) (xs : List ℕ) → leb n (fold max x xs) ≡ some (leb n) (x ∷ xs)
unfolding some
greatest_at_least n x [] = sym (or-false (leb n x))
greatest_at_least n x (y ∷ ys) =
    greatest_at_least n (max x y) ys ∙ ap (λ v. v || some (leb n) ys) (at_least n x y) ∙ or_assoc (leb n x) (leb n y) (some (leb n) ys)

-- what is said of the greatest alone
pub some_greatest : (n : ℕ) (r : Bool) (P : ℕ → Type 0) → ((x : ℕ) → P x → r ≡ leb n x) → (xs : List ℕ) (o : Option ℕ) → option_map (λ x. x) o ≡ reduce max xs
    → MatchOption o (r ≡ false) P → r ≡ some (leb n) xs
unfolding some
some_greatest n r P same [] None e h = h
some_greatest n r P same (x ∷ xs) None e h = absurd (true≢false (sym (ap is_some e)))
some_greatest n r P same [] (Some m) e h = absurd (true≢false (ap is_some e))
some_greatest n r P same (x ∷ xs) (Some m) e h = same m h ∙ ap (λ o. leb n (unwrap_or o 0)) e ∙ greatest_at_least n x xs

-- some element passes a test where something made of it passes another
pub some_mapped : (p q : ℕ → Bool) (f : ℕ → ℕ) (l : List ℕ) → ((i : ℕ) → i < length l → p (get_or l i 0) ≡ q (f (get_or l i 0)))
    → some p l ≡ some q (map f l)
unfolding some
some_mapped p q f [] same = grind arith
some_mapped p q f (x ∷ l) same = grind (arith, same 0 (omega arith), some_mapped p q f l (λ i h. same (suc i) (omega arith)))

-- a move that names no state and isn't 255 is one that is above n with 1 added
pub stray_above : (n x : ℕ) → x < 2 ^ 8 → stray n x ≡ leb (suc n) ((x + 1) % 2 ^ 8)
stray_above n x h = grind (arith, nat_tests)
