-- `propagator::known::Steps::step_by_letters` meets its contract.
use mathlib.Core.Path.{◌∙◌}
use Rattle.bitset.proofs.Going.{comes_member}
use Rattle.propagator.proofs.known.Steps.step_by_letters.Goals as goal

pub recall_image-requires : goal.recall_image-requires
recall_image-requires c =
    let letters = c.args.self.now.letters in
    let m = comes_member letters.set _ (c.into_iter-c-iterator.ensures.into_iter_gives ∙ c.members-c-items.ensures) _ _ _ _ c.loop-c.yielded_by c.in-Some.ensures.steps in
    (rw c.loop-c.invariant.same (letters.below _ m), m.small)
