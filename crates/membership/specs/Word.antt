-- The letters of a word (01, check 13).
use Rattle.std.specs.Prelude.{ℕ, ◌<◌, Bool, List, leb, length, get_or}
use Rattle.std.specs.List.{list_any}

-- check 13: a letter m or above
unfoldable pub strange : ℕ → List ℕ → Bool
strange m w = list_any (leb m) w

-- each letter of the word is below m
abbrev pub Letters : ℕ → List ℕ → Type 0
Letters m w = (i : ℕ) → i < length w → get_or w i 0 < m
