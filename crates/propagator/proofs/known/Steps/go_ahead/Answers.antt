-- `propagator::known::Steps::go_ahead` meets its contract.
use mathlib.Core.Path.{◌∙◌}
use native.Mathlib.Omega.{arith}
use Rattle.propagator.proofs.Forth.{passing_fits, passing_more, passing_ends}
use Rattle.propagator.proofs.known.Steps.go_ahead.Goals as goal

pub overflow_add-end : goal.overflow_add-end
overflow_add-end c =
    let fits = passing_fits _ c.loop-block.invariant.passing (omega arith) c.sets_of.ensures in
    omega (arith, fits, c.requires.sets_fit, c.well_formed)

pub slice_bounds-pass_block-end : goal.slice_bounds-pass_block-end
slice_bounds-pass_block-end c =
    let fits = passing_fits _ c.loop-block.invariant.passing (omega arith) c.sets_of.ensures in
    omega (arith, fits, c.requires.sets_fit)

pub loop-block-preserved : goal.loop-block-preserved
loop-block-preserved c =
    let after = c.pass_block-states.ensures in
    rw c.from.ensures
    record {
      same = after.moves ∙ c.loop-block.invariant.same;
      passing = passing_more _ c.loop-block.invariant.passing (omega arith) c.sets_of.ensures c.requires.room
          (rw c.loop-block.invariant.same at after.value) (rw c.loop-block.invariant.same at after.sets) (omega arith);
    }

pub returns : goal.returns
returns c =
    let (states, entries, stored, sets) = passing_ends _ c.loop-block.invariant.passing (omega arith) in
    record { states = states; entries = entries; sets = (stored, sets) }
