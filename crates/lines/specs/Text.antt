-- Numbers in decimal.
use Rattle.std.specs.Prelude.{ℕ, zero, suc, ◌+◌, ◌/◌, ◌%◌, cond, List, [], ◌∷◌, ◌++◌, ltb}

-- the digits of a number of at most k digits, with no 0 before others
unfoldable pub digits : ℕ → ℕ → List ℕ
digits zero n = []
digits (suc k) n = cond (ltb n 10) [] (digits k (n / 10)) ++ (48 + n % 10) ∷ []

-- a number below 2 ^ 64 in decimal
abbrev pub decimal : ℕ → List ℕ
decimal n = digits 20 n
