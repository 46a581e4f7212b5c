-- `propagator::moving::some_missing` meets its contract.
use borrow.Author.Rules.{rules}
use Rattle.std.proofs.lemmas.Iterator.{YieldsList-from_slice}
use Rattle.std.proofs.lemmas.Iterator.Consumers.{YieldsList-from_copied, max_from_yields_List}
use Rattle.records.proofs.Walk.{some_greatest}
use Rattle.propagator.proofs.moving.some_missing.Goals as goal

pub returns : goal.returns
returns c =
    some_greatest c.args.states c.is_some_and.result _ (λ x h. search rules) c.args.moves.now c.max.result
    (max_from_yields_List _ _ c.max.ensures.ran (YieldsList-from_copied (YieldsList-from_slice c.args.moves.now cc))) c.is_some_and.ensures
