-- `operations::narrow` meets its contract.
use Rattle.std.proofs.lemmas.Result.{err_from_is_err_and}
use Rattle.operations.specs.Pair.{from_record}
use Rattle.operations.proofs.NarrowPromise.{narrow_refused}
use Rattle.operations.proofs.narrow.Goals as goal

pub returns-in_err-pair : goal.returns-in_err-pair
returns-in_err-pair c =
    let p = err_from_is_err_and c.from_residual.result c.from_residual.ensures.1 in
    rw (p.1, p.2) (narrow_refused (from_record _ _) _ _ (rw c.in_err-pair.was at c.read.ensures))
