-- `records::writer::write_blocks` meets its contract.
use Rattle.std.proofs.Common.{arith}
use Rattle.records.proofs.Stores.{stored_all}
use Rattle.records.proofs.writer.write_blocks.Goals as goal

pub returns : goal.returns
returns c = stored_all c.args.blocks.now c.args.out.now c.loop-i.out c.loop-i.i (omega arith) (omega arith) c.loop-i.invariant
