-- `operations::placing::place_sized` meets its contract.
use Rattle.std.proofs.Common.{◌≡◌, ℕ, take, arith}
use Rattle.std.proofs.lemmas.List.{length-replicate}
use Rattle.model.specs.declared.Block.{Block}
use Rattle.records.specs.Read.{automaton, blocks_of}
use Rattle.operations.proofs.Passing.{passes_fit}
use Rattle.operations.proofs.Placed.{placed_none, placed_some}
use Rattle.operations.proofs.placing.place_sized.Goals as goal

pub pass-passed-requires-clause-blocks_fit : goal.pass-passed-requires-clause-blocks_fit
pass-passed-requires-clause-blocks_fit g c =
    let same : take c.len-count.result c.copy_to.new.blocks ≡ blocks_of c.args.pair.mask = rw c.len-count.ensures c.copy_to.ensures.copied in
    rw same (omega (arith, passes_fit _ _ c.args.pair.fits, c.requires.room, length-replicate {A = Block}))

pub pass-passed-requires-clause-sets_fit : goal.pass-passed-requires-clause-sets_fit
pass-passed-requires-clause-sets_fit g c =
    let same : take c.len-count.result c.copy_to.new.blocks ≡ blocks_of c.args.pair.mask = rw c.len-count.ensures c.copy_to.ensures.copied in
    rw same (omega (arith, passes_fit _ _ c.args.pair.fits, c.requires.room, length-replicate {A = ℕ}))

pub returns-then-intersection-eq0 : goal.returns-then-intersection-eq0
returns-then-intersection-eq0 g c =
    let same : take c.len-count.result c.copy_to.new.blocks ≡ blocks_of c.args.pair.mask = rw c.len-count.ensures c.copy_to.ensures.copied in
    let passed = c.pass-passed.ensures in
    placed_none (automaton c.args.pair.book) (blocks_of c.args.pair.mask) _ _ _ _ (omega arith) (rw same at passed.states) (rw same at passed.list)
    _ c.intersection.ensures c.if-intersection-eq0.true

pub returns : goal.returns
returns g c =
    let same : take c.len-count.result c.copy_to.new.blocks ≡ blocks_of c.args.pair.mask = rw c.len-count.ensures c.copy_to.ensures.copied in
    let passed = c.pass-passed.ensures in
    placed_some (automaton c.args.pair.book) (blocks_of c.args.pair.mask) _ _ _ _ (omega arith) (rw same at passed.states) (rw same at passed.list)
    _ c.intersection.ensures c.if-intersection-eq0.false (omega (arith, rw same at passed.entries, c.requires.bound))
