-- Every sample holds of the definitions, by computing both sides.
-- Assumes nothing.
use mathlib.Core.Path.{refl}
use Rattle.model.specs.Set.{has, some_below, union_below, some_from, one_member}
use Rattle.model.specs.Automaton.{next}
use Rattle.model.specs.Passes.{reach, after, before, between, rounds, first, fewest, forward, backward, pruned, final, kept, entries, finals, narrowed_list}
use Rattle.model.specs.NormalForm.{dropped, join, joined, normal}
use Rattle.model.specs.Verdict.{narrowed_mask, single, every, some_legal, some_illegal, verdict}
use Rattle.model.specs.Place.{place}
use Rattle.model.specs.Membership.{contains, within, piece, spells, accepts}
use Rattle.records.specs.Bytes.{number_at, bytes_of, over}
use Rattle.model.specs.Refusal.{refuse}
use Rattle.records.specs.Check.{some, unframed}
use Rattle.records.specs.Book.{book_head, moves_of, out_of_range, unnamed, book_checks}
use Rattle.records.specs.Mask.{block_from, blocks_from, mask_of, blocks_refusal, mask_refusal, foreign}
use Rattle.records.specs.Written.{block_bytes, blocks_bytes, head_bytes, mask_bytes}
use Rattle.membership.specs.Word.{strange}
use Rattle.operations.specs.Pair.{list_refusal, given_refusal}
use Rattle.operations.specs.Narrow.{narrow_record, narrow_refusal, narrowed, narrow_buffer}
use Rattle.operations.specs.Placed.{missing, place_refusal, placed}
use Rattle.operations.specs.Tidy.{tidy_record, tidy_refusal, tidied, tidy_buffer}
use Rattle.operations.specs.Try.{try_refusal, tried}
use Rattle.operations.specs.Samples.{AllHold, samples}

-- narrow, from a record and from a list, place, tidy and try
pub all_samples : AllHold samples
unfolding has some_below union_below some_from one_member next reach after before between rounds first fewest forward backward pruned final kept entries finals narrowed_list narrowed_mask single every some_legal some_illegal verdict place dropped join joined normal contains within piece spells accepts number_at bytes_of over refuse some unframed book_head moves_of out_of_range unnamed book_checks block_from blocks_from mask_of blocks_refusal mask_refusal foreign block_bytes blocks_bytes head_bytes mask_bytes strange list_refusal given_refusal narrow_record narrow_refusal narrowed narrow_buffer missing place_refusal placed tidy_record tidy_refusal tidied tidy_buffer try_refusal tried samples
all_samples =
    ((refl, refl), ((refl, refl), ((refl, refl), ((refl, refl), ((refl, refl), ((refl, refl), ((refl, refl), ((refl, refl), ((refl, refl), ((refl, refl), ((refl, refl), ((refl, refl), ((refl, refl), ((refl, refl), (refl, (refl, (refl, (refl, (refl, (refl, (refl, (refl, (refl, (refl, ((refl, refl), ((refl, refl), ((refl, refl), ((refl, refl), (refl, (refl, (refl, (refl, (refl, (refl, (refl, (refl, tt))))))))))))))))))))))))))))))))))))
