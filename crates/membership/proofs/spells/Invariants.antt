use Rattle.std.proofs.Common.{◌≡◌, ◌++◌, length}
use Rattle.records.specs.Read.{blocks_of}
use Rattle.membership.specs.Marks.{Marks}
use Rattle.membership.proofs.spells.Given as goal

abbrev pub invariant-loop-block : goal.invariant-loop-block
invariant-loop-block l =
    record {
      from_size : length l.from ≡ 1025;
      to_size : length l.to ≡ 1025;
      order : l.yielded ++ l.block-iterator ≡ blocks_of l.mask;
      exact : Marks l.yielded l.word l.from;
    }
