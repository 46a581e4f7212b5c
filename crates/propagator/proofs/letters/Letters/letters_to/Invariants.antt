use Prim.Native.Nat.{◌^◌}
use mathlib.Core.Path.{◌≡◌}
use Rattle.model.specs.Passes.{between}
use Rattle.records.specs.Read.{table}
use Rattle.propagator.proofs.Leading.{leading_letters}
use Rattle.propagator.proofs.letters.Letters.letters_to.Given as goal

abbrev pub invariant-loop-c : goal.invariant-loop-c
invariant-loop-c l = let t = table l.self.moves.table in leading_letters t l.q l.end l.found l.c-iterator ≡ between t l.self.set (2 ^ l.q) l.end
