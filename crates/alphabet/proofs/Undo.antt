-- Signs and letters undo each other on the 64 letters, and nothing else is a sign.
-- Assumes nothing.
use Rattle.std.proofs.Common.{◌≡◌, ℕ, ◌<◌, ◌≤◌, Option, Some, None, arith, refl}
use Rattle.std.proofs.lemmas.Bool.Decides.{nat_tests}
use Rattle.alphabet.specs.Alphabet.{sign_of, letter_of}

-- the letter of a letter's sign is the letter
pub letter_of_sign : (c : ℕ) → c < 64 → letter_of (sign_of c) ≡ Some c
unfolding sign_of letter_of
letter_of_sign c h = grind (arith, nat_tests)

-- a number past `z` has no letter
pub letter_past : (b : ℕ) → 123 ≤ b → letter_of b ≡ None
unfolding letter_of
letter_past b h = grind (arith, nat_tests)

-- what has a letter is the letter's sign
pub sign_of_letter : (b c : ℕ) → letter_of b ≡ Some c → (c < 64) × (sign_of c ≡ b)
unfolding sign_of letter_of
sign_of_letter b c e = grind (arith, nat_tests)

-- what is no letter's sign has no letter
pub no_letter : (b : ℕ) → ((c : ℕ) → c < 64 → ¬ (sign_of c ≡ b)) → letter_of b ≡ None
no_letter b none = go (letter_of b) refl
  where
    go : (x : Option ℕ) → letter_of b ≡ x → x ≡ None
    go (Some c) e = let (l, s) = sign_of_letter b c e in absurd (none c l s)
    go None e = refl

-- what is no letter has the sign 0
pub sign_past : (c : ℕ) → 64 ≤ c → sign_of c ≡ 0
unfolding sign_of
sign_past c h = grind (arith, nat_tests)

-- which is no letter's sign
pub no_sign : (c : ℕ) → 64 ≤ c → letter_of (sign_of c) ≡ None
unfolding letter_of
no_sign c h = rw (sign_past c h)
