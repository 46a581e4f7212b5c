use Rattle.std.proofs.Common.{◌≡◌, length, take, drop}
use Rattle.records.specs.Read.{blocks_of}
use Rattle.records.proofs.mask.Mask.copy_to.Given as goal

abbrev pub invariant-loop-i : goal.invariant-loop-i
invariant-loop-i l =
    let n = length (blocks_of l.self) in
    record {
      size : length l.blocks ≡ length l.initial.blocks;
      copied : take l.i l.blocks ≡ take l.i (blocks_of l.self);
      rest : drop n l.blocks ≡ drop n l.initial.blocks;
    }
