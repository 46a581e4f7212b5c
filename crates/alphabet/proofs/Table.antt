-- The table of signs lists the first 64 values of sign_of, by computing. Assumes nothing.
use Rattle.std.proofs.Common.{◌≡◌, ℕ, get_or, sym, ◌∙◌, ⊎_elim, zero-add}
use Rattle.std.proofs.lemmas.Bool.{cases_lt}
use Rattle.std.proofs.lemmas.List.{get_or_past}
use Rattle.std.proofs.lemmas.List.FromFn.{get_or-map-range_with_len}
use Rattle.alphabet.specs.declared.TheConstants.{SIGNS}
use Rattle.alphabet.specs.Alphabet.{sign_of}
use Rattle.alphabet.proofs.Undo.{sign_past}

-- read at any number, with 0 past its end
pub sign_at : (c : ℕ) → get_or SIGNS c 0 ≡ sign_of c
unfolding sign_of
sign_at c = ⊎_elim
    (λ h. get_or-map-range_with_len sign_of 0 64 c c 0 h (zero-add c))
    (λ h. get_or_past SIGNS c 0 h ∙ sym (sign_past c h))
    (cases_lt c 64)
