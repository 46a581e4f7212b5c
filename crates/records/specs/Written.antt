-- A mask written as a kind 2 record (01, "Records").
use Rattle.std.specs.Prelude.{ℕ, ◌+◌, ◌*◌, List, [], ◌∷◌, ◌++◌, length}
use Rattle.model.specs.declared.Block.{Block}
use Rattle.records.specs.Bytes.{bytes_of}

-- the 12 bytes of a block: S, l, u
unfoldable pub block_bytes : Block → List ℕ
block_bytes x = bytes_of 8 x.base ++ bytes_of 2 x.lower ++ bytes_of 2 x.upper

-- the bytes of blocks in order
unfoldable pub blocks_bytes : List Block → List ℕ
blocks_bytes [] = []
blocks_bytes (x ∷ xs) = block_bytes x ++ blocks_bytes xs

-- the six head bytes of a mask of k blocks: length, kind, number of blocks
unfoldable pub head_bytes : ℕ → List ℕ
head_bytes k = bytes_of 2 (6 + 12 * k) ++ bytes_of 2 2 ++ bytes_of 2 k

-- a mask as a kind 2 record
unfoldable pub mask_bytes : List Block → List ℕ
mask_bytes xs = head_bytes (length xs) ++ blocks_bytes xs
