-- `operations::narrowing::narrow_blocks` meets its contract.
use Rattle.std.proofs.Common.{sym, arith, length-take, length-take-le}
use Rattle.operations.proofs.Passing.{passes_fit}
use Rattle.operations.proofs.NarrowPromise.{list_fits, narrow_none, narrow_some}
use Rattle.operations.proofs.narrowing.narrow_blocks.Goals as goal

pub returns-then-intersection-eq0 : goal.returns-then-intersection-eq0
returns-then-intersection-eq0 c g none is same =
    let passed = c.pass-passed.ensures in
    narrow_none g none c.args.book is _ same c.requires.fits _ _ (omega arith) passed.states passed.list _ c.intersection.ensures _ c.if-intersection-eq0.true

pub slice_bounds-conclude-end : goal.slice_bounds-conclude-end
slice_bounds-conclude-end c =
    omega (arith, c.pass-passed.ensures.entries, (passes_fit _ _ c.requires.fits).0, c.requires.lent.0, length-take c.args.count c.args.blocks.now)

pub slice_bounds-conclude-end-2 : goal.slice_bounds-conclude-end-2
slice_bounds-conclude-end-2 c = sym (length-take-le _ _ (omega (arith, c.pass-passed.ensures.entries, (passes_fit _ _ c.requires.fits).0, c.requires.lent.0, length-take c.args.count c.args.blocks.now)))

pub conclude-requires : goal.conclude-requires
conclude-requires c =
    let passed = c.pass-passed.ensures in
    let fits = c.requires.fits in (
      omega (arith, passed.entries, passes_fit _ _ fits, fits.few, fits.room.sum, length-take c.pass-passed.result.entries c.pass-passed.new.blocks),
      list_fits _ _ _ fits _ (omega arith) passed.states _ passed.list _ c.intersection.ensures c.if-intersection-eq0.false,
    )

pub returns : goal.returns
returns c g none is same =
    let passed = c.pass-passed.ensures in
    narrow_some g none c.args.book is _ same c.requires.fits _ _ (omega arith) passed.states passed.list _ c.intersection.ensures
    _ _ _ c.if-intersection-eq0.false c.conclude.ensures
