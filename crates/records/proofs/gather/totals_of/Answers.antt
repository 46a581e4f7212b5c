-- `records::gather::totals_of` meets its contract.
use Rattle.std.proofs.Common.{◌≡◌, ◌+◌, Ok, Err, sym, ap, ◌∙◌, le-ltb, lt-ltb, arith}
use Rattle.std.proofs.lemmas.Result.{err_from_is_err_and}
use Rattle.model.specs.Refusal.{refuse}
use Rattle.records.specs.declared.totals.Totals.{Totals}
use Rattle.records.specs.Gathered.{with_block}
use Rattle.records.proofs.Taking.{block_taken, gathered_starts, gathered_more, gathered_crossed, gathered_ends}
use Rattle.records.proofs.gather.totals_of.Goals as goal

pub loop-i-init : goal.loop-i-init
loop-i-init g c = (omega arith, λ f h. gathered_starts)

pub loop-i-preserved : goal.loop-i-preserved
loop-i-preserved g c =
    let e : with_block c.loop-i.totals c.block_at.result ≡ Ok c.in_ok-totals.totals = sym c.with_block.ensures ∙ c.in_ok-totals.was in
    let (passed, same) = block_taken c.loop-i.totals _ c.block_at.result e in
    let sum : c.in_ok-totals.totals.uppers ≡ c.loop-i.totals.uppers + c.block_at.result.upper = ap (λ (m : Totals). m.uppers) same in (
      omega arith,
      λ f h. gathered_more f _ _ (c.loop-i.invariant.1 f h) _ (rw (h c.loop-i.i c.block_at.result (omega arith) c.block_at.ensures) at e),
    )

pub returns-in_err-totals : goal.returns-in_err-totals
returns-in_err-totals g c =
    let e : with_block c.loop-i.totals c.block_at.result ≡ Err c.in_err-totals.field-0.0 = sym c.with_block.ensures ∙ c.in_err-totals.was in
    λ f h.
    let p = err_from_is_err_and c.from_residual.result c.from_residual.ensures.1 in
    rw (p.1, p.2)
    (gathered_crossed f _ _ (c.loop-i.invariant.1 f h) _ _ (omega arith) (rw (h c.loop-i.i c.block_at.result (omega arith) c.block_at.ensures) at e))

pub returns-then-totals-gt1024 : goal.returns-then-totals-gt1024
unfolding refuse
returns-then-totals-gt1024 g c =
    λ f h. rw (lt-ltb 1024 c.loop-i.totals.uppers c.if-totals-gt1024.true) at (gathered_ends f _ _ (c.loop-i.invariant.1 f h) c.args.count (omega arith))

pub returns : goal.returns
unfolding refuse
returns g c =
    λ f h. rw (le-ltb 1024 c.loop-i.totals.uppers c.if-totals-gt1024.false) at (gathered_ends f _ _ (c.loop-i.invariant.1 f h) c.args.count (omega arith))
