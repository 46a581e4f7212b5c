-- `propagator::known::Steps::fill_places` meets its contract.
use mathlib.Core.Path.{◌∙◌}
use native.Mathlib.Omega.{arith}
use borrow.Author.Rules.{rules}
use Rattle.std.proofs.lemmas.List.{set-get_or}
use Rattle.propagator.proofs.Forth.{filling_repeats}
use Rattle.propagator.proofs.known.Steps.fill_places.Goals as goal

pub returns-then-next-set : goal.returns-then-next-set
returns-then-next-set c =
    let as_before = set-get_or c.loop-j.place-items c.loop-j.j 0 in
    let (last, places) = filling_repeats c.loop-j.invariant.filling (omega arith) (omega arith)
    (rw c.loop-j.invariant.same at c.step-next.ensures.value) c.if-next-set.true (search rules) in
    record { value = last; same = c.step-next.ensures.same ∙ c.loop-j.invariant.same; places = rw as_before places }
