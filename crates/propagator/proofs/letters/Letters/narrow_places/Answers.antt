-- `propagator::letters::Letters::narrow_places` meets its contract.
use native.Mathlib.Omega.{arith}
use Rattle.std.proofs.lemmas.Grind.{common_steps}
use Rattle.propagator.proofs.Placing.{becomes_more, placing_more}
use Rattle.propagator.proofs.letters.Letters.narrow_places.Goals as goal

pub loop-j-preserved : goal.loop-j-preserved
loop-j-preserved c =
    let (own, place) = becomes_more _ _ c.set_before-before.result c.loop-j.states _ _ c.loop-j.invariant.last (grind (arith, common_steps)) in
    record {
      last = own;
      placing = placing_more c.loop-j.invariant.placing (omega arith) (omega arith) (omega arith) c.requires.places
          c.set_before-before.ensures place;
    }
