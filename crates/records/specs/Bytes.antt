-- Numbers in bytes (01, "Records": all numbers are little-endian).
use Rattle.std.specs.Prelude.{ℕ, zero, suc, ◌+◌, ◌*◌, ◌/◌, ◌%◌, ◌<◌, List, [], ◌∷◌, ◌++◌, length, drop, slice_index}

-- byte i
abbrev pub byte_at : List ℕ → ℕ → ℕ
byte_at bs i = slice_index bs i

-- each is a byte
abbrev pub Bytes : List ℕ → Type 0
Bytes bs = (i : ℕ) → byte_at bs i < 256

-- the number in the k bytes from byte i on, the least byte first
unfoldable pub number_at : ℕ → List ℕ → ℕ → ℕ
number_at zero bs i = 0
number_at (suc k) bs i = byte_at bs i + 256 * number_at k bs (suc i)

-- the k bytes of a number, the least byte first
unfoldable pub bytes_of : ℕ → ℕ → List ℕ
bytes_of zero x = []
bytes_of (suc k) x = x % 256 ∷ bytes_of k (x / 256)

-- what lay in a buffer, with new bytes written over its first ones; bytes past these keep their contents
unfoldable pub over : List ℕ → List ℕ → List ℕ
over new old = new ++ drop (length new) old
