-- Kind 2 records: the blocks that one is, and the mask checks (01, "Records" and "The four operations").
use Rattle.std.specs.Prelude.{ℕ, zero, suc, ◌+◌, ◌*◌, Bool, not, Option, Result, List, [], ◌∷◌, length, ◌==◌, nat_lt}
use Rattle.model.specs.declared.Block.{Block}
use Rattle.model.specs.declared.Refusal.{Refusal}
use Rattle.model.specs.declared.Refusal.TheVariants.{Unframed, Kind, Head, OutOfRange, Size, Crossed, Uppers}
use Rattle.model.specs.Refusal.{accepted, refuse, unless}
use Rattle.model.specs.Set.{either, some_from}
use Rattle.model.specs.DashedString.{block}
use Rattle.model.specs.Size.{uppers}
use Rattle.records.specs.declared.totals.Totals.{Totals}
use Rattle.records.specs.Bytes.{number_at}
use Rattle.records.specs.Check.{some, kind, unframed}

-- the number of blocks: 2 bytes
abbrev pub count : List ℕ → ℕ
count bs = number_at 2 bs 4

-- the block in the 12 bytes from byte i on: S, l, u
unfoldable pub block_from : List ℕ → ℕ → Block
block_from bs i = block (number_at 8 bs i) (number_at 2 bs (i + 8)) (number_at 2 bs (i + 10))

-- k blocks from byte i on
unfoldable pub blocks_from : ℕ → List ℕ → ℕ → List Block
blocks_from zero bs i = []
blocks_from (suc k) bs i = block_from bs i ∷ blocks_from k bs (i + 12)

-- the blocks that a kind 2 record is
unfoldable pub mask_of : List ℕ → List Block
mask_of bs = blocks_from (count bs) bs 6

-- l is above u
abbrev pub crossed : Block → Bool
crossed x = nat_lt x.upper x.lower

-- the checks of blocks: 7 and 8
unfoldable pub blocks_refusal : List Block → Option Refusal
blocks_refusal xs =
    refuse (some crossed xs) Crossed
    (refuse (nat_lt 1024 (uppers xs)) Uppers
    accepted)

-- the mask checks: 1 to 5, 7 and 8
unfoldable pub mask_refusal : List ℕ → Option Refusal
mask_refusal bs =
    refuse (unframed bs) Unframed
    (refuse (not (kind bs == 2)) Kind
    (refuse (nat_lt (length bs) 6) Head
    (refuse (nat_lt 1024 (count bs)) OutOfRange
    (refuse (not (length bs == 6 + 12 * count bs)) Size
    (blocks_refusal (mask_of bs))))))

-- a set, and the letters that some block's set has
unfoldable pub with_letters : ℕ → List Block → ℕ
with_letters s [] = s
with_letters s (x ∷ xs) = with_letters (either s x.base) xs

-- the totals of blocks: the sum of their upper bounds, and the letters that some set has
abbrev pub totals_of : List Block → Totals
totals_of xs = record { uppers = uppers xs; used = with_letters 0 xs }

-- the totals of blocks, or their refusal
unfoldable pub read_blocks : List Block → Result Totals Refusal
read_blocks xs = unless (blocks_refusal xs) (totals_of xs)

-- the block's set has a letter m or above
abbrev pub beyond : ℕ → Block → Bool
beyond m x = some_from x.base m

-- check 9: a set with a letter m or above
unfoldable pub foreign : ℕ → List Block → Bool
foreign m xs = some (beyond m) xs
