-- `Mask::copy_to` meets its contract.
use Rattle.std.proofs.Common.{◌∙◌, arith, length, length-set}
use Rattle.std.proofs.lemmas.List.{drop-set-lt}
use Rattle.records.specs.Read.{blocks_of}
use Rattle.records.proofs.Copies.{copied_more, copied_all}
use Rattle.records.proofs.mask.Mask.copy_to.Goals as goal

pub loop-i-preserved : goal.loop-i-preserved
loop-i-preserved c =
    let before = c.loop-i.invariant in
    record {
      size = length-set _ _ _ ∙ before.size;
      copied = rw c.block.ensures (copied_more (blocks_of c.args.self) _ _ (omega arith) (omega arith) before.copied);
      rest = drop-set-lt (length (blocks_of c.args.self)) _ _ _ (omega arith) ∙ before.rest;
    }

pub returns-clause-copied : goal.returns-clause-copied
returns-clause-copied c = copied_all _ _ _ (omega arith) c.loop-i.invariant.copied
