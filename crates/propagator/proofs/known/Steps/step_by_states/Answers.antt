-- `propagator::known::Steps::step_by_states` meets its contract.
use native.Mathlib.Omega.{arith}
use borrow.Author.Rules.{rules}
use Rattle.propagator.proofs.Remembered.{stepping_full}
use Rattle.propagator.proofs.known.Steps.step_by_states.Goals as goal

pub returns-then-found-most-clause-value : goal.returns-then-found-most-clause-value
returns-then-found-most-clause-value c =
    let self = c.args.self.now in
    stepping_full _ _ _ _ _ c.loop-q.invariant.stepping self.letters.moves.small _ (search rules) self.bounds self.letters.below (omega (arith, c.limit-most.ensures))
