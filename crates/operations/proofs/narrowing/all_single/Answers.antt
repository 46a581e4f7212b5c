-- `operations::narrowing::all_single` meets its contract.
use Rattle.std.proofs.Common.{rules, tests, ◌∙◌}
use Rattle.std.proofs.lemmas.Iterator.{YieldsList-from_slice}
use Rattle.std.proofs.lemmas.Iterator.Search.{all_from_yields_List}
use Rattle.model.specs.Verdict.{single}
use Rattle.operations.proofs.Judging.{every_single}
use Rattle.operations.proofs.narrowing.all_single.Goals as goal

pub returns : goal.returns
unfolding single
returns c =
    all_from_yields_List single _ _ _ c.all.ensures.ran (YieldsList-from_slice c.args.blocks.now c.iter.ensures.rest) (λ x t q k. search (rules, tests))
    ∙ every_single c.args.blocks.now
