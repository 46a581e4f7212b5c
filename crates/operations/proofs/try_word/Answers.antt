-- `operations::try_word` meets its contract.
use Rattle.std.proofs.Common.{◌∙◌, sym, arith}
use Rattle.std.proofs.lemmas.Result.{err_from_is_err_and}
use Rattle.operations.proofs.Trying.{try_refused, try_long, try_strange, try_answers}
use Rattle.operations.proofs.try_word.Goals as goal

pub returns-in_err-pair : goal.returns-in_err-pair
returns-in_err-pair c =
    let p = err_from_is_err_and c.from_residual.result c.from_residual.ensures.1 in
    rw (p.1, p.2) (try_refused _ _ _ _ (rw c.in_err-pair.was at c.read.ensures))

pub returns-then-word-gt1024 : goal.returns-then-word-gt1024
returns-then-word-gt1024 c = try_long _ _ _ c.in_ok-pair.pair (rw c.in_ok-pair.was at c.read.ensures) c.if-word-gt1024.true

pub returns-then-some_strange : goal.returns-then-some_strange
returns-then-some_strange c =
    try_strange _ _ _ c.in_ok-pair.pair (rw c.in_ok-pair.was at c.read.ensures) (omega arith) (sym c.some_strange.ensures ∙ c.if-some_strange.true)

pub returns : goal.returns
returns c =
    try_answers _ _ _ c.in_ok-pair.pair (rw c.in_ok-pair.was at c.read.ensures) (omega arith) (sym c.some_strange.ensures ∙ c.if-some_strange.false) _ _ c.spells.ensures c.accepts.ensures
