-- Every sample holds of the definitions, by computing both sides.
-- Assumes nothing.
use Rattle.std.proofs.Common.{refl}
use Rattle.model.specs.Refusal.{refuse}
use Rattle.model.specs.Set.{has, some_below, some_from}
use Rattle.records.specs.Bytes.{number_at, bytes_of}
use Rattle.records.specs.Check.{some, unframed}
use Rattle.records.specs.Book.{book_head, moves_of, out_of_range, unnamed, book_checks}
use Rattle.records.specs.Mask.{block_from, blocks_from, mask_of, blocks_refusal, mask_refusal}
use Rattle.records.specs.Written.{block_bytes, blocks_bytes, head_bytes, mask_bytes}
use Rattle.records.specs.Samples.{AllHold, samples}

-- 01's sample, and the records with two faults
pub all_samples : AllHold samples
unfolding has some_below some_from number_at bytes_of refuse some unframed book_head moves_of out_of_range unnamed book_checks block_from blocks_from mask_of blocks_refusal mask_refusal block_bytes blocks_bytes head_bytes mask_bytes samples
all_samples = ((refl, refl), ((refl, refl, refl), (refl, (refl, (refl, (refl, (refl, (refl, (refl, (refl, (refl, (refl, (refl, (refl, (refl, tt)))))))))))))))
