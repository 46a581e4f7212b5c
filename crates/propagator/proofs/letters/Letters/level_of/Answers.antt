-- `propagator::letters::Letters::level_of` meets its contract.
use native.Mathlib.Omega.{arith}
use Rattle.propagator.proofs.Levels.{level_stays}
use Rattle.propagator.proofs.letters.Letters.level_of.Goals as goal

pub returns-then-next-level : goal.returns-then-next-level
returns-then-next-level c = level_stays _ _ _ _ _ _ _ _ c.loop.invariant c.raise-next.ensures c.if-next-level.true (omega arith)
