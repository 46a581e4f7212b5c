-- `propagator::back::go_back` meets its contract.
use Prim.Native.Nat.{◌-◌}
use native.Mathlib.Omega.{arith}
use Rattle.propagator.proofs.Returning.{part_long, returning_taken, returning_own, returning_more}
use Rattle.propagator.proofs.back.go_back.Goals as goal

pub overflow_sub-row : goal.overflow_sub-row
overflow_sub-row c =
    let block = returning_taken c.loop-i.invariant.returning (c.loop-i.i - 1) (omega arith) (omega arith) c.requires.room in
    omega (arith, block.fits, c.sets_of.ensures)

pub overflow_add-at : goal.overflow_add-at
overflow_add-at c =
    let block = returning_taken c.loop-i.invariant.returning (c.loop-i.i - 1) (omega arith) (omega arith) c.requires.room in
    omega (arith, block.begins)

pub overflow_sub-at : goal.overflow_sub-at
overflow_sub-at c =
    let block = returning_taken c.loop-i.invariant.returning (c.loop-i.i - 1) (omega arith) (omega arith) c.requires.room in
    omega (arith, block.begins)

pub narrow_block-kept-requires : goal.narrow_block-kept-requires
narrow_block-kept-requires c =
    let block = returning_taken c.loop-i.invariant.returning (c.loop-i.i - 1) (omega arith) (omega arith) c.requires.room in
    let (first, sets) = c.split_at.ensures.behind in
    let (own, inside) = returning_own c.loop-i.invariant.returning (c.loop-i.i - 1) (omega arith) (omega arith) c.requires.room c.sets_of.ensures first sets in
    rw c.from.ensures
    record {
      formed = (block.formed.letters, block.formed.bounds);
      size = part_long _ _ _ (omega (arith, block.begins)) c.loop-i.invariant.room;
      sets = own;
      inside = inside;
    }

pub loop-i-preserved : goal.loop-i-preserved
loop-i-preserved c =
    let (first, sets) = c.split_at.ensures.behind in
    let (front, left) = c.split_at.ensures.front in
    let made = c.narrow_block-kept.ensures in
    record {
      room = omega arith;
      returning = rw c.from.ensures (returning_more c.loop-i.invariant.returning (c.loop-i.i - 1) (omega arith) (omega arith) c.requires.room c.sets_of.ensures first sets
          front left (omega arith) made.value made.entries);
    }
