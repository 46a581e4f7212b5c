-- What is known of a number written in decimal. Assumes nothing.
use Rattle.std.proofs.Common.{◌≡◌, ℕ, ◌<◌, All, decimal, arith, Result, Ok, refl}
use Rattle.std.specs.Char.{IsAsciiDigit}
use Rattle.std.specs.Str.Parse.{ParsesUnsigned}
use Rattle.std.proofs.lemmas.Fmt.{decimal_by_steps, parse-decimal, IsAscii-decimal}
use Rattle.std.proofs.lemmas.Grind.{common_steps}
use Rattle.std.proofs.lemmas.Str.{IsUtf8-from_ascii}

-- it is digits
pub digits_of_decimal : (n : ℕ) → n < 100000 → All IsAsciiDigit (decimal n)
digits_of_decimal n h = decimal_by_steps (λ n ds. All IsAsciiDigit ds) (λ n l. grind (arith, common_steps)) (λ n ds l h. grind (arith, common_steps)) n (omega arith)

-- it is read back
pub parse_of_decimal : {E : Type 0} (n : ℕ) (r : Result ℕ E) → n < 100000 → ParsesUnsigned 32 10 (decimal n) r → r ≡ Ok n
parse_of_decimal n r h p = parse-decimal 32 n _ r (omega arith) (omega arith) refl p

-- these, and that it is text
pub ruleset decimals = (digits_of_decimal, parse_of_decimal, IsAscii-decimal, IsUtf8-from_ascii)
