-- The normal form made from the first block on, where the last that may still be joined is held back.
use Rattle.std.specs.Prelude.{Option, Some, None, List, ◌∷◌}
use Rattle.model.specs.declared.Block.{Block}

-- the block, if there is one, in front of blocks
abbrev pub perhaps : Option Block → List Block → List Block
perhaps None xs = xs
perhaps (Some x) xs = x ∷ xs
