use Rattle.std.proofs.Common.{◌≡◌, length}
use Rattle.model.specs.NormalForm.{normal}
use Rattle.model.specs.Size.{Room}
use Rattle.normal_form.specs.Joining.{perhaps}
use Rattle.operations.proofs.joined.JoinedIterator.next.Given as goal

abbrev pub invariant-loop-block : goal.invariant-loop-block
invariant-loop-block l =
    let first = l.initial.self in
    record {
      room : Room 64 (perhaps l.self.joiner.held l.self.blocks);
      same : normal (perhaps first.joiner.held first.blocks) ≡ normal (perhaps l.self.joiner.held l.self.blocks);
    }

abbrev pub decreases-loop-block : goal.decreases-loop-block
decreases-loop-block l = length l.self.blocks
