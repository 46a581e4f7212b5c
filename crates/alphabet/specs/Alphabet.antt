-- Letters and their printed signs (01, "Letters, codes, blocks"). A sign is its byte: `+` is 43, `-` 45, `0` 48, `A` 65, `a` 97.
use Rattle.std.specs.Prelude.{ℕ, ◌+◌, ◌-◌, Bool, cond, ◌&&◌, leb, ltb, Option, Some, None}

-- x is from a to e
abbrev pub within : ℕ → ℕ → ℕ → Bool
within a e x = leb x e && leb a x

-- 0 is `+`, 1 is `-`, 2 to 11 are `0` to `9`, 12 to 37 are `A` to `Z`, 38 to 63 are `a` to `z`; from 64 on it is 0, no sign
unfoldable pub sign_of : ℕ → ℕ
sign_of c =
    cond (ltb c 1) 43
    (cond (ltb c 2) 45
    (cond (ltb c 12) (48 + (c - 2))
    (cond (ltb c 38) (65 + (c - 12))
    (cond (ltb c 64) (97 + (c - 38)) 0))))

-- the letter that a byte is the sign of, by the byte's range, or none
unfoldable pub letter_of : ℕ → Option ℕ
letter_of b =
    cond (within 43 43 b) (Some 0)
    (cond (within 45 45 b) (Some 1)
    (cond (within 48 57 b) (Some (2 + (b - 48)))
    (cond (within 65 90 b) (Some (12 + (b - 65)))
    (cond (within 97 122 b) (Some (38 + (b - 97))) None))))
