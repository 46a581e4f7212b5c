-- The totals of blocks, gathered from block after block.
use Rattle.std.specs.Prelude.{◌+◌, Result}
use Rattle.model.specs.declared.Block.{Block}
use Rattle.model.specs.declared.Refusal.{Refusal}
use Rattle.model.specs.declared.Refusal.TheVariants.{Crossed}
use Rattle.model.specs.Refusal.{accepted, refuse, unless}
use Rattle.model.specs.Set.{either}
use Rattle.records.specs.declared.totals.Totals.{Totals}
use Rattle.records.specs.Mask.{crossed}

-- the totals with those of one block more, by check 7
abbrev pub with_block : Totals → Block → Result Totals Refusal
with_block t x =
    unless (refuse (crossed x) Crossed accepted) (record { uppers = t.uppers + x.upper; used = either t.used x.base })
