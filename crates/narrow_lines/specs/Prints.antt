-- What is read and what is printed, where it is known which bytes a reader has left and which a writer holds.
use Rattle.std.specs.Prelude.{ℕ, List, ◌++◌, Option, Some, Result, Ok, Err, IfSome, MatchResult}
use Rattle.std.specs.Io.KnownBytes.{Appends, Consumes}
use Rattle.model.specs.declared.Refusal.{Refusal}
use Rattle.lines.specs.Output.{lines_from, output}
use Rattle.lines.specs.Parts.{Opens}
use Rattle.narrow_lines.specs.declared.input.Input.{Input}
use Rattle.narrow_lines.specs.Held.{held, ended, NoFailure, Ends}

-- what the input begins with is settled by the bytes held, which are all that was read
pub record Begins (input : Input) (begins : Result ℕ Refusal) (had left : Option (List ℕ)) : Type 0 where
  pub opens : let settles : Result (Option ℕ) Refusal → Type 0 = Opens (held input) (ended input) in
      MatchResult begins (λ k. settles (Ok (Some k))) (λ r. settles (Err r))
  pub read : NoFailure input → Consumes had left (held input) × Ends (ended input) left

-- the lines of the bytes held and of all that the reader had left
abbrev pub PrintsMasks : List ℕ → ℕ → List ℕ → Option (List ℕ) → Option (List ℕ) → Option (List ℕ) → Type 0
PrintsMasks bs n held left old new = IfSome left (λ rest. Appends old new (lines_from bs n (held ++ rest)))

-- what the line program prints for all that the reader had left
abbrev pub PrintsOutput : Option (List ℕ) → Option (List ℕ) → Option (List ℕ) → Type 0
PrintsOutput left old new = IfSome left (λ all. Appends old new (output all))
