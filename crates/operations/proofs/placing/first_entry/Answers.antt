-- `operations::placing::first_entry` meets its contract.
use Prim.Native.Nat.{◌^◌}
use Rattle.std.proofs.Common.{rules, tests, ◌∙◌, take}
use Rattle.std.proofs.lemmas.Iterator.{YieldsList-from_take, YieldsList-from_map}
use Rattle.std.proofs.lemmas.Iterator.Consumers.{YieldsList-from_first, YieldsList-at, sum_by_from_yields_List, fits_from_yields_list}
use Rattle.records.specs.Read.{blocks_of}
use Rattle.operations.proofs.EntryNumbers.{entries_of, begins_sum, begins_few}
use Rattle.operations.proofs.placing.first_entry.Goals as goal

pub sum-requires-clause-fits : goal.sum-requires-clause-fits
sum-requires-clause-fits c =
    let first = YieldsList-from_first (λ x. x) (λ s. s) (blocks_of c.args.pair.mask) c.blocks-2.ensures in
    let some = YieldsList-from_take c.args.block (YieldsList-at c.take.ensures.source first) c.take.ensures.count in
    fits_from_yields_list _ (2 ^ 64)
    (YieldsList-from_map _ entries_of (YieldsList-at c.map.ensures.source some) c.map.ensures.closure (λ x r q k. search (rules, tests)))
    (begins_few _ _ c.args.pair.fits c.args.block c.requires)

pub returns : goal.returns
returns c =
    let xs = blocks_of c.args.pair.mask in
    let first = YieldsList-from_first (λ x. x) (λ s. s) xs c.blocks-2.ensures in
    let some = YieldsList-from_take c.args.block (YieldsList-at c.take.ensures.source first) c.take.ensures.count in
    sum_by_from_yields_List entries_of (take c.args.block xs) _ _ c.sum.ensures.ran
    (YieldsList-from_map _ entries_of (YieldsList-at c.map.ensures.source some) c.map.ensures.closure (λ x r q k. search (rules, tests)))
    ∙ begins_sum xs c.args.block
