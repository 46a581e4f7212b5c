-- `operations::narrow_list` meets its contract.
use Rattle.std.proofs.Common.{◌∙◌, sym, arith, lit≤, replicate}
use Rattle.std.proofs.lemmas.List.{length-replicate}
use Rattle.std.proofs.lemmas.Result.{err_from_is_err_and}
use Rattle.model.specs.DashedString.{block}
use Rattle.operations.specs.Pair.{from_list}
use Rattle.records.proofs.Answers.{unless_ok, unless_err}
use Rattle.operations.proofs.NarrowPromise.{narrow_refused}
use Rattle.operations.proofs.Lists.{list_book, list_long, list_refused, list_read, copy_ready, copy_lent, copy_promised}
use Rattle.operations.proofs.narrow_list.Goals as goal

pub returns-in_err-book : goal.returns-in_err-book
returns-in_err-book c =
    let p = err_from_is_err_and c.from_residual.result c.from_residual.ensures.1 in
    rw (p.1, p.2) (list_book _ _ _ _ (rw c.in_err-book.was at c.read_book.ensures))

pub returns-then-count-gt1024 : goal.returns-then-count-gt1024
returns-then-count-gt1024 c = list_long _ _ _ c.in_ok-book.book (rw c.in_ok-book.was at c.read_book.ensures) (omega arith)

pub returns-in_err-totals : goal.returns-in_err-totals
returns-in_err-totals c =
    let p = err_from_is_err_and c.from_residual-in_err-totals.result c.from_residual-in_err-totals.ensures.1 in
    let book = rw c.in_ok-book.was at c.read_book.ensures in
    rw (p.1, p.2) (narrow_refused (from_list _ _) _ _ (list_refused _ _ (omega arith) c.in_ok-book.book book _ (sym c.check_blocks.ensures ∙ c.in_err-totals.was)))

pub returns-in_err-check_letters : goal.returns-in_err-check_letters
returns-in_err-check_letters c =
    let p = err_from_is_err_and c.from_residual-in_err-check_letters.result c.from_residual-in_err-check_letters.ensures.1 in
    let book = rw c.in_ok-book.was at c.read_book.ensures in
    let totals = sym c.check_blocks.ensures ∙ c.in_ok-totals.was in
    let fails = unless_err _ _ _ (sym c.check_letters.ensures ∙ c.in_err-check_letters.was) in
    rw (p.1, p.2) (narrow_refused (from_list _ _) _ _ (list_read _ _ (omega arith) c.in_ok-book.book book _ totals ∙ fails))

pub narrow_blocks-requires-clause-fits : goal.narrow_blocks-requires-clause-fits
narrow_blocks-requires-clause-fits c =
    let book = rw c.in_ok-book.was at c.read_book.ensures in
    let totals = sym c.check_blocks.ensures ∙ c.in_ok-totals.was in
    let (own, _) = unless_ok _ _ _ (sym c.check_letters.ensures ∙ c.in_ok-check_letters.was) in
    copy_ready _ _ (omega arith) c.in_ok-book.book book _ totals own _ c.copy_blocks.ensures.copied (omega arith)

pub narrow_blocks-requires-clause-lent : goal.narrow_blocks-requires-clause-lent
narrow_blocks-requires-clause-lent c =
    let book = rw c.in_ok-book.was at c.read_book.ensures in
    let totals = sym c.check_blocks.ensures ∙ c.in_ok-totals.was in
    let (own, _) = unless_ok _ _ _ (sym c.check_letters.ensures ∙ c.in_ok-check_letters.was) in
    copy_lent _ _ (omega arith) c.in_ok-book.book book _ totals own _ c.copy_blocks.ensures.copied (omega arith) (replicate 1024 0) (c.copy_blocks.ensures.size ∙ length-replicate 2048 (block 0 0 0)) (lit≤ tt)

pub returns : goal.returns
returns c =
    let book = rw c.in_ok-book.was at c.read_book.ensures in
    let totals = sym c.check_blocks.ensures ∙ c.in_ok-totals.was in
    let (own, _) = unless_ok _ _ _ (sym c.check_letters.ensures ∙ c.in_ok-check_letters.was) in
    copy_promised _ _ (omega arith) c.in_ok-book.book book _ totals own _ c.copy_blocks.ensures.copied _ _ _ c.narrow_blocks.ensures
