use Rattle.std.proofs.Common.{◌≡◌, ◌+◌, length}
use Rattle.model.specs.Size.{lower_sum, uppers}
use Rattle.records.specs.Read.{blocks_of}
use Rattle.lines.proofs.answer.sums_of.Given as goal

abbrev pub invariant-loop-block : goal.invariant-loop-block
invariant-loop-block l =
    let xs = blocks_of l.mask in
    record {
      blocks : l.sums.blocks + length l.block-iterator ≡ length xs;
      lowers : l.sums.lowers + lower_sum l.block-iterator ≡ lower_sum xs;
      uppers : l.sums.uppers + uppers l.block-iterator ≡ uppers xs;
    }
