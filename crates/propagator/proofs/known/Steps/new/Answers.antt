-- `propagator::known::Steps::new` meets its contract.
use Rattle.propagator.proofs.Targets.{targets_given}
use Rattle.propagator.proofs.known.Steps.new.Goals as goal

pub invariant_of-result-2-clause-bounds : goal.invariant_of-result-2-clause-bounds
invariant_of-result-2-clause-bounds c = targets_given _ _ c.targets.ensures c.args.moves.small c.args.moves.table.enough
