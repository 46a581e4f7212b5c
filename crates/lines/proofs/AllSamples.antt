-- Every sample holds of the definitions, by computing both sides.
-- Assumes nothing.
use mathlib.Core.Path.{refl}
use Rattle.model.specs.Set.{has, some_below, union_below, some_from, one_member}
use Rattle.model.specs.Automaton.{next}
use Rattle.model.specs.Passes.{reach, after, before, between, rounds, first, fewest, forward, backward, pruned, final, kept, entries, finals, narrowed_list}
use Rattle.model.specs.NormalForm.{dropped, join, joined, normal}
use Rattle.model.specs.Verdict.{narrowed_mask, single, every, some_legal, some_illegal, verdict}
use Rattle.model.specs.Size.{lower_sum}
use Rattle.records.specs.Bytes.{number_at, bytes_of}
use Rattle.model.specs.Refusal.{refuse}
use Rattle.records.specs.Check.{some, unframed}
use Rattle.records.specs.Book.{book_head, moves_of, out_of_range, unnamed, book_checks}
use Rattle.records.specs.Mask.{block_from, blocks_from, mask_of, blocks_refusal, mask_refusal, foreign}
use Rattle.records.specs.Written.{block_bytes, blocks_bytes, head_bytes, mask_bytes}
use Rattle.operations.specs.Pair.{given_refusal}
use Rattle.stream.specs.Stream as stream
use Rattle.lines.specs.Text.{digits}
use Rattle.lines.specs.Line.{mask_line}
use Rattle.lines.specs.Output.{mask_lines, lines_from, output}
use Rattle.lines.specs.Samples.{AllHold, samples}

pub all_samples : AllHold samples
unfolding has some_below union_below some_from one_member next reach after before between rounds first fewest forward backward pruned final kept entries finals narrowed_list narrowed_mask single every some_legal some_illegal verdict dropped join joined normal lower_sum number_at bytes_of refuse some unframed book_head moves_of out_of_range unnamed book_checks block_from blocks_from mask_of blocks_refusal mask_refusal foreign block_bytes blocks_bytes head_bytes mask_bytes given_refusal stream.next digits mask_line mask_lines lines_from output samples
all_samples = (refl, (refl, (refl, (refl, (refl, (refl, (refl, (refl, (refl, (refl, (refl, (refl, (refl, tt)))))))))))))
