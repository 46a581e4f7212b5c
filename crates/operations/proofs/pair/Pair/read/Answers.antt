-- `Pair::read` meets its contract.
use Rattle.std.proofs.Common.{◌∙◌, sym, arith}
use Rattle.std.proofs.lemmas.Result.{err_from_is_err_and}
use Rattle.operations.specs.Pair.{from_record}
use Rattle.records.proofs.Answers.{unless_ok, unless_err}
use Rattle.operations.proofs.Pairs.{refused_book, refused_mask, letters_decide, read_fits}
use Rattle.operations.proofs.pair.Pair.read.Goals as goal

pub returns-in_err-book : goal.returns-in_err-book
returns-in_err-book c =
    let p = err_from_is_err_and c.from_residual.result c.from_residual.ensures.1 in
    rw (p.1, p.2) (refused_book (from_record _ _) _ (rw c.in_err-book.was at c.read_book.ensures))

pub returns-in_err-mask : goal.returns-in_err-mask
returns-in_err-mask c =
    let p = err_from_is_err_and c.from_residual-in_err-mask.result c.from_residual-in_err-mask.ensures.1 in
    let book = rw c.in_ok-book.was at c.read_book.ensures in
    rw (p.1, p.2) (refused_mask (from_record _ _) book.0 _ (rw c.in_err-mask.was at c.read_mask.ensures))

pub returns-in_err-check_letters : goal.returns-in_err-check_letters
returns-in_err-check_letters c =
    let p = err_from_is_err_and c.from_residual-in_err-check_letters.result c.from_residual-in_err-check_letters.ensures.1 in
    let book = rw c.in_ok-book.was at c.read_book.ensures in
    let mask = rw c.in_ok-mask.was at c.read_mask.ensures in
    rw (p.1, p.2)
    (letters_decide (from_record _ _) book.0 mask.0 c.in_ok-book.book book.1 _ mask.2 ∙ unless_err _ _ _ (sym c.check_letters.ensures ∙ c.in_err-check_letters.was))

pub invariant_of-result : goal.invariant_of-result
invariant_of-result c =
    let mask = rw c.in_ok-mask.was at c.read_mask.ensures in
    let (own, _) = unless_ok _ _ _ (sym c.check_letters.ensures ∙ c.in_ok-check_letters.was) in
    rw mask.1 (record { fits = read_fits _ _ (λ i. omega (arith, c.type_inv.mask i)) mask.0 _ mask.2 own; summed = mask.2 })

pub returns : goal.returns
returns c =
    let book = rw c.in_ok-book.was at c.read_book.ensures in
    let mask = rw c.in_ok-mask.was at c.read_mask.ensures in
    let (own, _) = unless_ok _ _ _ (sym c.check_letters.ensures ∙ c.in_ok-check_letters.was) in
    (letters_decide (from_record _ _) book.0 mask.0 c.in_ok-book.book book.1 _ mask.2 ∙ own, book.1, mask.1)
