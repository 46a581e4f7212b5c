-- The narrowed mask and the verdicts, the first that fits (01, "The passes").
use Rattle.std.specs.Prelude.{ℕ, Bool, true, false, not, ◌&&◌, List, [], ◌∷◌, eqb}
use Rattle.model.specs.declared.Block.{Block}
use Rattle.model.specs.declared.Verdict.{Verdict}
use Rattle.model.specs.declared.Verdict.TheVariants.{None, All, One, Some}
use Rattle.model.specs.Set.{has, some_member, one_member}
use Rattle.model.specs.Automaton.{Dfa}
use Rattle.model.specs.Passes.{finals, narrowed_list}
use Rattle.model.specs.NormalForm.{normal}
use Rattle.model.specs.Text.{ascii}

-- the verdicts' numbers at the host (01, "Records")
abbrev pub number : Verdict → ℕ
number None = 1
number All = 2
number One = 3
number Some = 4

-- and their words in the line program
abbrev pub word : Verdict → List ℕ
word None = ascii "none"
word All = ascii "all"
word One = ascii "one"
word Some = ascii "some"

-- the narrowed mask: the normal form of the narrowed list
unfoldable pub narrowed_mask : Dfa → List Block → List Block
narrowed_mask b xs = normal (narrowed_list b xs)

-- what each block is for the verdict one: of one letter, and l = u
unfoldable pub single : Block → Bool
single x = eqb x.lower x.upper && one_member x.base

-- each block passes the test
unfoldable pub every : (Block → Bool) → List Block → Bool
every p [] = true
every p (x ∷ xs) = p x && every p xs

-- the first that fits, by whether: some code is legal; some code is not; each block of the normal form is single
abbrev pub say : Bool → Bool → Bool → Verdict
say false illegal singles = None
say true false singles = All
say true true true = One
say true true false = Some

-- some code of the mask is legal: step 2's E is not empty
unfoldable pub some_legal : Dfa → List Block → Bool
some_legal b xs = some_member (finals b xs) (has b.accepting)

-- some code of the mask is not legal: it leads to a state that does not accept, or to the dead state
unfoldable pub some_illegal : Dfa → List Block → Bool
some_illegal b xs = some_member (finals b xs) (λ q. not (has b.accepting q))

-- the verdict
unfoldable pub verdict : Dfa → List Block → Verdict
verdict b xs = say (some_legal b xs) (some_illegal b xs) (every single (narrowed_mask b xs))
