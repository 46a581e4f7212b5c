-- `operations::placing::entry_of` meets its contract.
use mathlib.Core.Path.{refl}
use native.Mathlib.Omega.{arith}
use Rattle.operations.proofs.EntryNumbers.{entries_few}
use Rattle.operations.proofs.placing.entry_of.Goals as goal

pub overflow_add-result : goal.overflow_add-result
overflow_add-result c = omega (arith, entries_few _ _ c.args.pair.fits _ _ _ c.requires.block_there c.first_entry-first.ensures c.block.ensures)

pub overflow_add-result-2 : goal.overflow_add-result-2
overflow_add-result-2 c = omega (arith, entries_few _ _ c.args.pair.fits _ _ _ c.requires.block_there c.first_entry-first.ensures refl)
