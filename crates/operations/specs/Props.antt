-- That blocks fit is a fact, which holds in one way at most, so that a ghost field may hold it.
use Rattle.std.specs.Prelude.{List, [], ◌∷◌}
use Rattle.std.proofs.Props.{props}
use Rattle.model.specs.declared.Block.{Block}
use Rattle.model.specs.DashedString.{Each}

-- where a property is a fact of each block, it is one of each of a list
pub each_one : {P : Block → Type 0} → ((x : Block) → IsProp (P x)) → (xs : List Block) → IsProp (Each P xs)
each_one one [] = Prim.hlevel props
each_one one (x ∷ xs) = let first = one x in let others = each_one one xs in Prim.hlevel (props, first, others)
