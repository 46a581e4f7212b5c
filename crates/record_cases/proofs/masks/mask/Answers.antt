-- A mask that was read has at most 1,024 blocks.
use Rattle.records.proofs.Offsets.{blocks_counted}
use Rattle.records.proofs.WellFormed.{mask_record}
use Rattle.record_cases.proofs.masks.mask.Goals as goal

pub comes_back-requires : goal.comes_back-requires
comes_back-requires g c = let (none, same, _) = c.in-Ok.ensures in rw (same, blocks_counted) (mask_record _ none).few
