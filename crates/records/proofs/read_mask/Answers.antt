-- `records::read_mask` meets its contract.
use Rattle.std.proofs.Common.{◌≡◌, refl, sym, ◌∙◌, rules, arith}
use Rattle.std.proofs.lemmas.Result.{err_from_is_err_and}
use Rattle.model.specs.DashedString.{block_at}
use Rattle.records.specs.Mask.{count, mask_of, read_blocks}
use Rattle.records.proofs.Answers.{unless_ok, unless_err}
use Rattle.records.proofs.Checks.{framed, blocks_decide}
use Rattle.records.proofs.Copies.{record_values}
use Rattle.records.proofs.Offsets.{block_of_mask}
use Rattle.records.proofs.read_mask.Goals as goal

pub returns-in_err-totals : goal.returns-in_err-totals
unfolding read_blocks
returns-in_err-totals c =
    let bs = c.args.bytes.now in
    let counted : c.count_field-count.result ≡ count bs = c.count_field-count.ensures in
    let checked = rw (counted, record_values bs) at (c.totals_of.ensures (block_at (mask_of bs)) (λ i x h p. search (rules, block_of_mask bs i (omega (arith, h, counted))))) in
    let (frame, two, long) = framed 2 6 bs _ _ (sym c.check.ensures ∙ c.in_ok-check.was) in
    let p = err_from_is_err_and c.from_residual-in_err-totals.result c.from_residual-in_err-totals.ensures.1 in
    rw (p.1, p.2) (blocks_decide bs frame two long (omega arith) (omega arith) ∙ unless_err _ _ _ (sym checked ∙ c.in_err-totals.was))

pub returns : goal.returns
unfolding read_blocks
returns c =
    let bs = c.args.bytes.now in
    let counted : c.count_field-count.result ≡ count bs = c.count_field-count.ensures in
    let checked = rw (counted, record_values bs) at (c.totals_of.ensures (block_at (mask_of bs)) (λ i x h p. search (rules, block_of_mask bs i (omega (arith, h, counted))))) in
    let (frame, two, long) = framed 2 6 bs _ _ (sym c.check.ensures ∙ c.in_ok-check.was) in
    let (none, same) = unless_ok _ _ _ (sym checked ∙ c.in_ok-totals.was) in
    (blocks_decide bs frame two long (omega arith) (omega arith) ∙ none, refl, same)
