-- The entry that the operation place returns (01, "Place"), for a block number and a place that the mask has.
use Rattle.std.specs.Prelude.{ℕ, zero, suc, ◌+◌, ◌-◌, List, [], ◌∷◌, get_or}
use Rattle.model.specs.declared.Block.{Block}
use Rattle.model.specs.declared.Verdict.{Verdict}
use Rattle.model.specs.declared.Verdict.TheVariants.{None, All, One, Some}
use Rattle.model.specs.DashedString.{block, block_at}
use Rattle.model.specs.Automaton.{Dfa}
use Rattle.model.specs.Passes.{narrowed_list}
use Rattle.model.specs.Verdict.{verdict}

-- where block i's entries begin in the narrowed list, i from 0: each block before has l + 1 of them
abbrev pub begins : List Block → ℕ → ℕ
begins [] i = 0
begins (x ∷ xs) zero = 0
begins (x ∷ xs) (suc i) = suc (x.lower + begins xs i)

-- the number of the entry of block i, from 0, and a place; place 0 is the optional part, behind the places
abbrev pub entry_of : List Block → ℕ → ℕ → ℕ
entry_of xs i zero = begins xs i + (block_at xs i).lower
entry_of xs i (suc j) = begins xs i + j

-- for none, the empty set and bounds 0, 0
abbrev pub unless_none : Verdict → Block → Block
unless_none None x = block 0 0 0
unless_none All x = x
unless_none One x = x
unless_none Some x = x

-- the set and bounds of block i, from 1, and a place, before dropping or joining
unfoldable pub place : Dfa → List Block → ℕ → ℕ → Block
place b xs i j = unless_none (verdict b xs) (get_or (narrowed_list b xs) (entry_of xs (i - 1) j) (block 0 0 0))
