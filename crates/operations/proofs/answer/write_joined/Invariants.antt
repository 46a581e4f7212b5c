use Rattle.std.proofs.Common.{◌≡◌, take, drop}
use Rattle.std.proofs.lemmas.List.Edits.{sets}
use Rattle.model.specs.NormalForm.{normal}
use Rattle.records.specs.Read.{blocks_of}
use Rattle.records.specs.Written.{blocks_bytes}
use Rattle.normal_form.specs.Joining.{perhaps}
use Rattle.operations.proofs.answer.write_joined.Given as goal

-- as many blocks as were counted are stored, and the others are still to come
abbrev pub invariant-loop-i : goal.invariant-loop-i
invariant-loop-i l =
    let zs = normal (blocks_of l.mask) in
    let left = l.i-iterator in
    record {
      stored : l.out ≡ sets l.initial.out 0 (blocks_bytes (take left.count zs));
      rest : drop left.count zs ≡ normal (perhaps left.iter.joiner.held left.iter.blocks);
    }
