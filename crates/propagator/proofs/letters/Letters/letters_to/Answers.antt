-- `propagator::letters::Letters::letters_to` meets its contract.
use mathlib.Core.Path.{◌∙◌}
use Rattle.bitset.proofs.Going.{comes_member}
use Rattle.propagator.proofs.letters.Letters.letters_to.Goals as goal

pub next-state-requires : goal.next-state-requires
next-state-requires c =
    c.args.self.below _ (comes_member c.args.self.set _ (c.into_iter-c-iterator.ensures.into_iter_gives ∙ c.members-c-items.ensures) _ _ _ _ c.loop-c.yielded_by c.in-Some.ensures.steps)
