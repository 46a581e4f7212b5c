-- The normal form of a list of blocks (01, "The passes"): first drop, then join.
use Rattle.std.specs.Prelude.{ℕ, ◌+◌, Bool, cond, ◌&&◌, ◌||◌, ◌≡◌, List, [], ◌∷◌, T, eqb}
use Rattle.model.specs.declared.Block.{Block}
use Rattle.model.specs.DashedString.{block}

-- what is dropped: u = 0, or an empty set and l = 0
abbrev pub idle : Block → Bool
idle x = eqb x.upper 0 || eqb x.base 0 && eqb x.lower 0

-- without those blocks
unfoldable pub dropped : List Block → List Block
dropped [] = []
dropped (x ∷ xs) = cond (idle x) (dropped xs) (x ∷ dropped xs)

-- x in front of a list; where the sets are equal x and its first become one, lower bounds added, upper bounds added
unfoldable pub join : Block → List Block → List Block
join x [] = x ∷ []
join x (y ∷ ys) = cond (eqb x.base y.base) (block x.base (x.lower + y.lower) (x.upper + y.upper) ∷ ys) (x ∷ y ∷ ys)

-- neighbours with equal sets become one
unfoldable pub joined : List Block → List Block
joined [] = []
joined (x ∷ xs) = join x (joined xs)

-- the normal form
unfoldable pub normal : List Block → List Block
normal xs = joined (dropped xs)

-- the list does not begin with a block of the set S
abbrev pub Apart : ℕ → List Block → Type 0
Apart S [] = Unit {0}
Apart S (x ∷ xs) = ¬ (S ≡ x.base)

-- no block is idle, and no two neighbours have equal sets
abbrev pub Reduced : List Block → Type 0
Reduced [] = Unit {0}
Reduced (x ∷ xs) = ¬ T (idle x) × Apart x.base xs × Reduced xs
