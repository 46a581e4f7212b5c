-- `records::check_blocks` meets its contract.
use Rattle.std.proofs.Common.{rules}
use Rattle.model.specs.DashedString.{block_at}
use Rattle.records.proofs.Copies.{values_all}
use Rattle.records.proofs.check_blocks.Goals as goal

pub returns : goal.returns
returns c = rw (values_all c.args.blocks.now) at (c.totals_of.ensures (block_at c.args.blocks.now) (λ i x h p. search rules))
