-- `operations::answer::write_joined` meets its contract.
use Rattle.std.proofs.Common.{◌∙◌, refl}
use Rattle.records.specs.Written.{blocks_bytes}
use Rattle.operations.proofs.Tidying.{joined_more, joined_all}
use Rattle.operations.proofs.answer.write_joined.Goals as goal

pub loop-i-init : goal.loop-i-init
unfolding blocks_bytes
loop-i-init c =
    let e = c.enumerate-i-items.ensures in
    rw (c.into_iter-i-iterator.ensures.into_iter_gives, e.source, e.count, c.of.ensures) (record { stored = refl; rest = refl })

pub loop-i-preserved : goal.loop-i-preserved
loop-i-preserved c =
    let (first, number, count, _) = c.in-Some.ensures.steps in
    let before = c.loop-i.invariant in
    let (stored, rest) = joined_more _ _ _ _ before.stored _ _ _ (before.rest ∙ first) (rw number at c.write_block.ensures) in
    rw count (record { stored = stored; rest = rest })

pub returns : goal.returns
returns c =
    let before = c.loop-i.invariant in
    joined_all _ _ _ _ before.stored (before.rest ∙ c.in-None.ensures.steps.0.0) c.requires.room
