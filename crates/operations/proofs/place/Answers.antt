-- `operations::place` meets its contract.
use Rattle.std.proofs.Common.{◌∙◌, sym}
use Rattle.operations.proofs.Placed.{place_answers}
use Rattle.operations.proofs.place.Goals as goal

pub returns : goal.returns
returns c =
    place_answers _ _ _ _ c.in_ok-pair.pair (rw c.in_ok-pair.was at c.read.ensures) _ (sym c.missing.ensures ∙ c.if-missing.false)
    c.place_entry.ensures
