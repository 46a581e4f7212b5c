-- The input that is held, and what a read brings.
use Rattle.std.specs.Prelude.{ℕ, ◌≡◌, ◌<◌, Bool, false, List, ◌++◌, T, length, take, Option, is_some, IfSome, IsOk}
use Rattle.std.specs.Io.KnownBytes.{Consumes, IsAtEnd}
use Rattle.narrow_lines.specs.declared.input.Input.{Input}

-- the bytes held
abbrev pub held : Input → List ℕ
held i = take i.size i.bytes

-- nothing comes behind them
abbrev pub ended : Input → Bool
ended i = is_some i.end

-- no read failed
abbrev pub NoFailure : Input → Type 0
NoFailure i = IfSome i.end (λ r. IsOk r)

-- where the input has ended, the reader has nothing left
abbrev pub Ends : Bool → Option (List ℕ) → Type 0
Ends ended left = T ended → IsAtEnd left

-- a read brings some bytes behind those held, or ends the input; unless it failed, the reader had them, and nothing behind an end
pub record Brings (old new : Input) (had left : Option (List ℕ)) : Type 0 where
  pub more : List ℕ
  pub behind : held new ≡ held old ++ more
  pub grows : ended new ≡ false → length (held old) < length (held new)
  pub read : NoFailure new → Consumes had left more × Ends (ended new) left
