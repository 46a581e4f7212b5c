-- `propagator::pass` meets its contract.
use mathlib.Core.Path.{◌≡◌}
use native.Mathlib.Omega.{arith}
use lib.ListN.{length, take}
use lib.Seq.{take-take, length-take-le}
use Rattle.propagator.proofs.Whole.{pass_inside, pass_none, pass_some}
use Rattle.records.specs.Read.{automaton}
use Rattle.propagator.proofs.pass.Goals as goal
use Rattle.propagator.proofs.pass.Goals.{After-intersection-end}

-- of the entries, as many as are counted, the first are the blocks
first : (c : After-intersection-end) → let entries = take c.go_ahead-states.result.entries c.args.blocks.now in
    (take c.args.count entries ≡ take c.args.count c.args.blocks.now) × (length entries ≡ c.go_ahead-states.result.entries)
first c =
    let n = c.go_ahead-states.result.entries in
    let size = length-take-le c.args.count c.args.blocks.now (omega (arith, c.requires.blocks_fit)) in (
      take-take c.args.count n c.args.blocks.now (omega (arith, size, c.go_ahead-states.ensures.entries)),
      length-take-le n c.args.blocks.now (omega (arith, size, c.go_ahead-states.ensures.entries, c.requires.blocks_fit)),
    )

pub go_back-requires-clause-inside : goal.go_back-requires-clause-inside
go_back-requires-clause-inside c =
    let ahead = rw c.new-steps.ensures at c.go_ahead-states.ensures in
    pass_inside (automaton c.args.book) _ _ _ _ c.add-start.ensures ahead.states ahead.entries _ c.intersection-end.ensures
    _ (first (goal.at.go_back-requires-clause-inside c).After-intersection-end).0

pub returns-then-end-ne0 : goal.returns-then-end-ne0
returns-then-end-ne0 c =
    let ahead = rw c.new-steps.ensures at c.go_ahead-states.ensures in
    let (same, size) = first (goal.at.returns-then-end-ne0 c).After-intersection-end in
    pass_some _ _ _ _ _ c.add-start.ensures ahead.states ahead.entries _ c.intersection-end.ensures _ same _ _ c.go_back.ensures (omega (arith, size))

pub returns-else-end-ne0 : goal.returns-else-end-ne0
returns-else-end-ne0 c =
    let ahead = rw c.new-steps.ensures at c.go_ahead-states.ensures in
    pass_none _ _ _ _ _ c.add-start.ensures ahead.states ahead.entries _ c.intersection-end.ensures _ c.if-end-ne0.false
