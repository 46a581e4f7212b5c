-- Each turn prints the first of the lines that are owed, and goes on with those of what is held then.
use Rattle.std.proofs.Common.{◌≡◌, ◌∙◌, ap, arith}
use Rattle.narrow_lines.specs.declared.input.Input.{Input}
use Rattle.narrow_lines.specs.Held.{held, NoFailure}
use Rattle.narrow_lines.proofs.Printing.{going_on, going_read, last, prints}
use Rattle.narrow_lines.proofs.print_masks.Goals as goal
use Rattle.narrow_lines.proofs.print_masks.Goals.{in-Full, in-More}

pub returns-in-Done-clause-prints : goal.returns-in-Done-clause-prints
returns-in-Done-clause-prints g c sound ends =
    let going = c.loop.invariant.going (rw c.take.ensures.end at sound) ends in
    let step = rw (c.part.ensures.bytes, c.part.ensures.ended) at c.run-taken.ensures in
    prints _ 1 (held c.args.input.now) _ _ _ (λ xs is. last _ _ _ _ _ _ _ _ _ _ _ _ _ going step c.in_ok-write_all.ensures.bytes xs is c.in-Done.is)

pub loop-preserved : goal.loop-preserved
loop-preserved g c =
    let step = rw (c.part.ensures.bytes, c.part.ensures.ended) at c.run-taken.ensures in
    elim c.match-pause.branch [
      | in-Full w ↦
          let same : c.match-pause.input.end ≡ c.loop.input.end = ap (λ (i : Input). i.end) w.input-is ∙ c.take.ensures.end in
          record {
            sound = λ s. c.loop.invariant.sound (rw same at s);
            going = λ s ends.
                let going = c.loop.invariant.going (rw same at s) ends in
                rw (w.input-is, w.reader-is, c.take.ensures.held, c.take.ensures.end)
                (going_on _ _ _ _ _ _ _ _ _ _ _ _ _ going step c.in_ok-write_all.ensures.bytes (λ done. cc (done, w.in-Full.is)));
          }
      | in-More w ↦
          let sound : NoFailure c.loop.input = grind (arith, (rw w.in-More.is at step.why).0) in
          let reads = w.read_from.ensures in
          record {
            sound = λ _. c.loop.invariant.sound sound;
            going = λ s ends.
                let going = c.loop.invariant.going sound ends in
                let read = reads.read (rw w.input-is at s) in
                let turned = going_on _ _ _ _ _ _ _ _ _ _ _ _ _ going step c.in_ok-write_all.ensures.bytes (λ done. cc (done, w.in-More.is)) in
                rw (w.input-is, w.reader-is, reads.behind, c.take.ensures.held) (going_read _ _ _ _ _ _ _ _ _ _ _ _ _ turned read.0 read.1);
          }
    ]
