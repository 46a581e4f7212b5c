-- `propagator::known::Steps::pass_block` meets its contract.
use borrow.Author.Rules.{rules}
use native.Mathlib.Omega.{arith}
use lib.ListN.{length-take}
use Rattle.propagator.proofs.Forth.{block_passed, block_stored}
use Rattle.propagator.proofs.known.Steps.pass_block.Goals as goal

pub returns-clause-value : goal.returns-clause-value
returns-clause-value c =
    let turned = c.turn_to.ensures in
    block_passed _ _ _ _ _ _ (omega (arith, c.requires.size, c.from-places.ensures, length-take c.from-places.result c.args.sets.now))
    (rw (turned.turned, turned.moves) at c.fill_places-last.ensures.value) (rw (c.fill_places-last.ensures.same, turned.turned, turned.moves, c.from.ensures) at c.reached-states.ensures.value)

pub returns-clause-sets : goal.returns-clause-sets
returns-clause-sets c =
    let turned = c.turn_to.ensures in
    rw c.from-places.ensures
    (block_stored _ _ _ _ _ _ (omega (arith, c.requires.size, c.from-places.ensures, length-take c.from-places.result c.args.sets.now))
    (rw (turned.turned, turned.moves) at c.fill_places-last.ensures.value) (rw (c.fill_places-last.ensures.same, turned.turned, turned.moves, c.from.ensures) at c.reached-states.ensures.value)
    _ _ _ c.requires.formed.1 c.requires.size (rw (turned.turned, turned.moves) at c.fill_places-last.ensures.places) (search rules))
