use Rattle.std.proofs.Common.{◌≡◌, take}
use lib.Seq.{sets}
use Rattle.records.specs.Written.{blocks_bytes}
use Rattle.records.proofs.writer.write_blocks.Given as goal

abbrev pub invariant-loop-i : goal.invariant-loop-i
invariant-loop-i l = l.out ≡ sets l.initial.out 0 (blocks_bytes (take l.i l.blocks))
