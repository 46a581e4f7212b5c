-- Numbers in decimal, and how long a word and a number are.
-- Assumes nothing.
use Prim.Native.Nat.{ℕ, zero, suc, ◌+◌, ◌-◌, ◌/◌, ◌%◌, ◌^◌, ◌≤◌, ◌<◌}
use mathlib.Core.Path.{◌≡◌, ◌∙◌}
use mathlib.Core.Bool.{Bool, true, false, cond}
use mathlib.Core.List.{List, [], ◌++◌}
use native.Mathlib.Nat.{lt_of_not-le, pow-le-pow_right}
use native.Mathlib.Omega.{arith}
use borrow.Author.Tests.{lt-ltb, le-ltb}
use lib.Dec.{ltb}
use lib.ListN.{length, take, length-append}
use Rattle.io.specs.Digits as io
use Rattle.lines.specs.Text.{digits, decimal}
use Rattle.lines.specs.Line.{spaced}

-- the digits that io gives are these
pub decimal_is : (k r n : ℕ) → r ≤ k → io.IsDigitCount 10 1 n r → io.last_digits 10 r n ≡ digits k n
unfolding digits
decimal_is k zero n h f = absurd (omega (arith, f.0))
decimal_is zero (suc r) n h f = absurd (omega arith)
decimal_is (suc k) (suc zero) n h f =
    rw (lt-ltb n 10 (omega (arith, f.1)), lt-ltb (n % 10) 10 (omega arith))
decimal_is (suc k) (suc (suc r)) n h f =
    rw (le-ltb n 10 (omega (arith, ten)), lt-ltb (n % 10) 10 (omega arith), decimal_is k (suc r) (n / 10) (omega arith) rest)
  where
    less : (k : ℕ) → suc k - 1 ≡ k
    less k = omega arith

    ten : 10 ^ suc r ≤ n
    ten = rw (less (suc r)) at (f.2 (omega arith))

    rest : io.IsDigitCount 10 1 (n / 10) (suc r)
    rest = (omega arith, omega (arith, f.1), λ l. rw (less r) (omega (arith, ten)))

-- a number below 2 ^ 64 has at most 20 digits
pub few_digits : (n r : ℕ) → n < 2 ^ 64 → io.IsDigitCount 10 1 n r → r ≤ 20
few_digits n r h f =
    let below : r < 21 = lt_of_not-le (λ l. omega (arith, f.2 (omega arith), pow-le-pow_right {n = 10} (omega arith) {i = 20} {j = r - 1} (omega arith))) in
    omega arith

-- what io gives
pub decimal_put : (n k : ℕ) (digits : List ℕ) → n < 2 ^ 64 → io.IsDigitCount 10 1 n k
    → take k digits ≡ io.last_digits 10 k n → take k digits ≡ decimal n
decimal_put n k digits small f e = e ∙ decimal_is 20 k n (few_digits n k small f) f

-- a number takes at most so many bytes
pub digits_few : (k n : ℕ) → length (digits k n) ≤ k
unfolding digits
digits_few zero n = omega arith
digits_few (suc k) n = simp (length-append) (omega (arith, front (digits_few k (n / 10)) (ltb n 10)))
  where
    front : length (digits k (n / 10)) ≤ k → (t : Bool) → length (cond t [] (digits k (n / 10))) ≤ k
    front h true = omega arith
    front h false = h

pub decimal_few : (text : List ℕ) (n : ℕ) → length (text ++ decimal n) ≤ length text + 20
decimal_few text n = omega (arith, length-append text (decimal n), digits_few 20 n)

-- and one more with the blank before it
pub spaced_few : (text : List ℕ) (n : ℕ) → length (text ++ spaced n) ≤ length text + 21
spaced_few text n = omega (arith, length-append text (spaced n), digits_few 20 n)
