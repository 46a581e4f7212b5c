-- `operations::tidy` meets its contract.
use Rattle.std.proofs.Common.{arith}
use Rattle.std.proofs.lemmas.Result.{err_from_is_err_and}
use Rattle.operations.proofs.Tidying.{mask_fits, tidy_refused, tidy_written}
use Rattle.operations.proofs.tidy.Goals as goal

pub returns-in_err-mask : goal.returns-in_err-mask
returns-in_err-mask c =
    let p = err_from_is_err_and c.from_residual.result c.from_residual.ensures.1 in
    rw (p.1, p.2) (tidy_refused _ _ _ (rw c.in_err-mask.was at c.read_mask.ensures))

pub write_tidied-requires : goal.write_tidied-requires
write_tidied-requires c =
    mask_fits _ c.in_ok-mask.mask _ (λ i. omega (arith, c.type_inv.mask i)) (rw c.in_ok-mask.was at c.read_mask.ensures)

pub returns : goal.returns
returns c =
    let read = rw c.in_ok-mask.was at c.read_mask.ensures in
    tidy_written _ _ _ _ (λ i. omega (arith, c.type_inv.mask i)) read.0 (rw read.1 at c.write_tidied.ensures)
