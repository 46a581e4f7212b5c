-- `propagator::memo::Memo::recall` meets its contract.
use native.Mathlib.Omega.{arith}
use Rattle.propagator.proofs.Remembered.{held_more}
use Rattle.propagator.proofs.memo.Memo.recall.Goals as goal

pub returns : goal.returns
returns g c f held made =
    let value = made _ c.make-found.ensures in
    (value, held_more f _ held _ c.requires.index _ _ (omega arith) value c.add-self.ensures)
