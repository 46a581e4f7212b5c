-- `propagator::letters::Letters::narrow_place` meets its contract.
use mathlib.Core.Path.{sym, ◌∙◌}
use mathlib.Core.Logic.{inl, inr}
use Rattle.propagator.proofs.Gathering.{comes_small}
use Rattle.propagator.proofs.Narrowing.{narrowing_starts, narrowing_more}
use Rattle.propagator.proofs.letters.Letters.narrow_place.Goals as goal
use Rattle.propagator.proofs.letters.Letters.narrow_place.Goals.{then-fresh-ne0, else-fresh-ne0+else-some_letter_to, then-fresh-ne0-via-then-fresh-ne0, then-fresh-ne0-via-else-fresh-ne0+then-some_letter_to}

pub loop-q-init : goal.loop-q-init
loop-q-init c = narrowing_starts c.args.self.moves.small (c.into_iter-q-iterator.ensures.into_iter_gives ∙ c.members-q-items.ensures)

pub loop-q-preserved : goal.loop-q-preserved
loop-q-preserved c =
    narrowing_more c.args.self.moves.small c.loop-q.invariant _ _ c.in-Some.ensures.steps (comes_small _ _ _ c.in-Some.ensures.steps)
    (rw c.difference.ensures at c.letters_to-fresh.ensures) c.union-letters.ensures
    (elim c.if-fresh-ne0.branch [
      | then-fresh-ne0 w ↦ inl (elim w.then-fresh-ne0.branch [ then-fresh-ne0-via-then-fresh-ne0 v ↦ inl v.if-fresh-ne0.true | then-fresh-ne0-via-else-fresh-ne0+then-some_letter_to v ↦ inr (sym v.some_letter_to.ensures ∙ v.if-some_letter_to.true) ], w.states-is ∙ w.add-states.ensures)
      | else-fresh-ne0+else-some_letter_to w ↦ inr (w.if-fresh-ne0.false, sym w.some_letter_to.ensures ∙ w.if-some_letter_to.false, w.states-is)
    ])
