-- Checks in order, and answers that are refusals: what each tells of the others.
-- Assumes nothing.
use Rattle.std.proofs.Common.{◌≡◌, Option, None, Some, refl}
use Rattle.model.specs.declared.Refusal.{Refusal}
use Rattle.model.specs.Refusal.{accepted, and_then}

-- where nothing is refused, neither the first checks nor the next ones refuse
pub passed_first : (r next : Option Refusal) → and_then r next ≡ accepted → (r ≡ accepted) × (next ≡ accepted)
passed_first None next h = (refl, h)
passed_first (Some r) next h = cc
