-- `propagator::back::narrow_block` meets its contract.
use mathlib.Core.Path.{◌≡◌}
use native.Mathlib.Omega.{arith}
use borrow.Author.Rules.{rules}
use lib.ListN.{length, set, take, length-take, length-set}
use Rattle.propagator.proofs.Returning.{block_front, block_within, block_returned, block_made}
use Rattle.propagator.proofs.back.narrow_block.Goals as goal
use Rattle.propagator.proofs.back.narrow_block.Goals.{After-narrow_optional-optional}

-- as many entries as places are lent on
few : (c : After-narrow_optional-optional)
    → length (take c.from-count.result (set c.args.entries.now c.from-count.result c.narrow_optional-optional.result.block)) ≡ c.args.block.lower
few c =
    let all = set c.args.entries.now c.from-count.result c.narrow_optional-optional.result.block in
    omega (arith, c.requires.size, c.from-count.ensures, length-take c.from-count.result all, length-set c.args.entries.now c.from-count.result c.narrow_optional-optional.result.block)

pub narrow_optional-optional-requires : goal.narrow_optional-optional-requires
narrow_optional-optional-requires c =
    let split = rw c.from-count.ensures at c.split_at.ensures in
    record {
      within_value = block_within _ _ _ _ c.requires.formed.1 c.requires.sets _ _ _ split.behind.0 c.set_before-within.ensures
          (search rules) (search rules) c.requires.inside;
    }

pub narrow_places-requires-clause-places : goal.narrow_places-requires-clause-places
narrow_places-requires-clause-places c =
    let (first, sets) = (rw c.from-count.ensures at c.split_at.ensures).front in
    block_front _ _ _ _ c.requires.formed.1 c.requires.sets _ _ _ first sets (few (goal.at.narrow_places-requires-clause-places c).After-narrow_optional-optional)

pub returns-clause-value : goal.returns-clause-value
returns-clause-value c =
    let split = rw c.from-count.ensures at c.split_at.ensures in
    let optional = c.narrow_optional-optional.ensures in
    block_returned _ _ _ _ c.requires.formed.1 c.requires.sets _ _ _ split.behind.0 c.set_before-within.ensures _ _
    optional.block_value optional.states_value _ _ split.front.0 (few (goal.at.returns-clause-value c).After-narrow_optional-optional)
    _ c.narrow_places.ensures.value

pub returns-clause-entries : goal.returns-clause-entries
returns-clause-entries c =
    let split = rw c.from-count.ensures at c.split_at.ensures in
    let optional = c.narrow_optional-optional.ensures in
    rw c.from-count.ensures
    (block_made _ _ _ _ c.requires.formed.1 c.requires.sets _ _ _ split.behind.0 c.set_before-within.ensures _ _
    optional.block_value optional.states_value _ _ split.front.0 (few (goal.at.returns-clause-entries c).After-narrow_optional-optional)
    _ _ c.requires.size c.narrow_places.ensures.entries)
