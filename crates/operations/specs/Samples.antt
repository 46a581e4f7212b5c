-- The operations on a few records: what 01 expects of them, and inputs with two faults, of which the first check in order decides.
use Rattle.std.specs.Prelude.{ℕ, ◌≡◌, true, false, Result, Ok, Err, List, [], ◌∷◌, ◌++◌, length, replicate}
use Rattle.model.specs.declared.Block.{Block}
use Rattle.model.specs.declared.Refusal.{Refusal}
use Rattle.model.specs.declared.Refusal.TheVariants.{Unframed, Kind, Head, OutOfRange, Crossed, Uppers, Foreign, Room, Missing, TooLong, Strange}
use Rattle.model.specs.declared.Verdict.TheVariants.{None, All, One, Some}
use Rattle.model.specs.DashedString.{block}
use Rattle.records.specs.Written.{mask_bytes}
use Rattle.operations.specs.declared.Narrowed.{Narrowed}
use Rattle.operations.specs.declared.Tried.{Tried}
use Rattle.operations.specs.Pair.{from_record, from_list}
use Rattle.operations.specs.Narrow.{narrowed, narrow_buffer}
use Rattle.operations.specs.Placed.{placed}
use Rattle.operations.specs.Tidy.{tidied, tidy_buffer}
use Rattle.operations.specs.Try.{tried}

-- a book, a mask and an answer buffer, with narrow's answer and the buffer behind it; the same, where the mask is a list of
-- blocks; a book, a mask, a block number and a place, with place's answer; a mask and an answer buffer, with tidy's answer and
-- the buffer behind it; a book, a mask and a code, with try's answer
pub data Row : Type 0 where
  narrows : List ℕ → List ℕ → List ℕ → Result Narrowed Refusal → List ℕ → Row
  lists : List ℕ → List Block → List ℕ → Result Narrowed Refusal → List ℕ → Row
  places : List ℕ → List ℕ → ℕ → ℕ → Result Block Refusal → Row
  tidies : List ℕ → List ℕ → Result ℕ Refusal → List ℕ → Row
  tries : List ℕ → List ℕ → List ℕ → Result Tried Refusal → Row

-- the definitions give what the row says
abbrev pub Holds : Row → Type 0
Holds (narrows bs ms old a new) = (narrowed (from_record bs ms) (length old) ≡ a) × (narrow_buffer (from_record bs ms) old ≡ new)
Holds (lists bs xs old a new) = (narrowed (from_list bs xs) (length old) ≡ a) × (narrow_buffer (from_list bs xs) old ≡ new)
Holds (places bs ms i j a) = placed bs ms i j ≡ a
Holds (tidies ms old a new) = (tidied ms (length old) ≡ a) × (tidy_buffer ms old ≡ new)
Holds (tries bs ms w a) = tried bs ms w ≡ a

-- each row holds
abbrev pub AllHold : List Row → Type 0
AllHold [] = Unit {0}
AllHold (r ∷ rs) = Holds r × AllHold rs

-- 01's book A: 0 by letter 0 to 1, 1 by letter 1 to 2, 2 by letter 2 to 1; state 1 accepts
abbrev pub A : List ℕ
A = 0x18 ∷ 0 ∷ 1 ∷ 0 ∷ 3 ∷ 3 ∷ 0 ∷ 2 ∷ replicate 7 0 ++ 1 ∷ 255 ∷ 255 ∷ 255 ∷ 2 ∷ 255 ∷ 255 ∷ 255 ∷ 1 ∷ []

-- 01's book B: 0 by letter 0 or 1 to 1, 1 by letter 2 to 2; state 2 accepts
abbrev pub B : List ℕ
B = 0x18 ∷ 0 ∷ 1 ∷ 0 ∷ 3 ∷ 3 ∷ 0 ∷ 4 ∷ replicate 7 0 ++ 1 ∷ 1 ∷ 255 ∷ 255 ∷ 255 ∷ 2 ∷ 255 ∷ 255 ∷ 255 ∷ []

-- 01's book C: one accepting state, which loops on letters 0, 1
abbrev pub C : List ℕ
C = 0x11 ∷ 0 ∷ 1 ∷ 0 ∷ 1 ∷ 2 ∷ 0 ∷ 1 ∷ replicate 7 0 ++ 0 ∷ 0 ∷ []

-- {0,1,2} 0–2 (01, "Trials at the stake")
abbrev pub up_to_two : List ℕ
up_to_two = mask_bytes (block 0b111 0 2 ∷ [])

-- {0,1,2} 2–2 (01, "Trials at the stake")
abbrev pub two : List ℕ
two = mask_bytes (block 0b111 2 2 ∷ [])

-- {0} 0–1, {1} 0–0, {0} 0–1 (01, "Faults we would expect")
abbrev pub apart : List ℕ
apart = mask_bytes (block 0b01 0 1 ∷ block 0b10 0 0 ∷ block 0b01 0 1 ∷ [])

-- {0} 0–2, {0} 1–1 (01, "Faults we would expect")
abbrev pub greedy : List ℕ
greedy = mask_bytes (block 0b01 0 2 ∷ block 0b01 1 1 ∷ [])

-- a mask with a letter that book C lacks
abbrev pub foreign : List ℕ
foreign = mask_bytes (block 0b100 0 1 ∷ [])

-- k bytes of 0xEE
abbrev pub filled : ℕ → List ℕ
filled k = replicate k 0xEE

-- narrow, place, tidy, try
unfoldable pub samples : List Row
samples =
    -- some, and the bytes behind keep their contents; a byte less than needed
    narrows A up_to_two (filled 20) (Ok (record { verdict = Some; bytes = 18 })) (mask_bytes (block 0b111 1 2 ∷ []) ++ filled 2)
    ∷ narrows A up_to_two (filled 17) (Err Room) (filled 17)
    -- one, the dead state not forgotten; all, of no blocks; none, which never gives 10
    ∷ narrows A (mask_bytes (block 0b111 1 1 ∷ [])) (filled 18) (Ok (record { verdict = One; bytes = 18 })) (mask_bytes (block 0b001 1 1 ∷ []))
    ∷ narrows C (mask_bytes []) (filled 6) (Ok (record { verdict = All; bytes = 6 })) (mask_bytes [])
    ∷ narrows B (mask_bytes (block 0b100 1 3 ∷ [])) [] (Ok (record { verdict = None; bytes = 0 })) []
    -- a bad mask and no byte; 9 and no byte
    ∷ narrows C (4 ∷ 0 ∷ 1 ∷ 0 ∷ []) [] (Err Kind) []
    ∷ narrows C foreign [] (Err Foreign) []
    -- from a list: some; none, of no blocks
    ∷ lists A (block 0b111 0 2 ∷ []) (filled 20) (Ok (record { verdict = Some; bytes = 18 })) (mask_bytes (block 0b111 1 2 ∷ []) ++ filled 2)
    ∷ lists B [] [] (Ok (record { verdict = None; bytes = 0 })) []
    -- a bad book and 1,025 blocks; 1,025 blocks and l above u; l above u and uppers of 1,025; these and 9; 9 and no byte
    ∷ lists [] (replicate 1025 (block 0b100 1 0)) [] (Err Unframed) []
    ∷ lists C (replicate 1025 (block 0b100 1 0)) [] (Err OutOfRange) []
    ∷ lists C (block 0b100 1 0 ∷ block 0b100 0 1025 ∷ []) [] (Err Crossed) []
    ∷ lists C (block 0b100 0 1025 ∷ []) [] (Err Uppers) []
    ∷ lists C (block 0b100 0 1 ∷ []) [] (Err Foreign) []
    -- two places and no optional part behind them; an optional part alone; a place of a second block; none
    ∷ places B two 1 1 (Ok (block 0b011 1 1))
    ∷ places B two 1 2 (Ok (block 0b100 1 1))
    ∷ places B two 1 0 (Ok (block 0 0 0))
    ∷ places A up_to_two 1 0 (Ok (block 0b111 1 2))
    ∷ places C greedy 2 1 (Ok (block 0b01 1 1))
    ∷ places B (mask_bytes (block 0b100 1 3 ∷ [])) 1 0 (Ok (block 0 0 0))
    -- block 0; a block above k; a place above l; 9 and 11
    ∷ places B two 0 0 (Err Missing)
    ∷ places B two 2 0 (Err Missing)
    ∷ places B two 1 3 (Err Missing)
    ∷ places C foreign 0 0 (Err Foreign)
    -- joining comes after dropping, and the bytes behind keep their contents; a byte less than needed; a mask cut off, and no byte
    ∷ tidies apart (filled 20) (Ok 18) (mask_bytes (block 0b01 0 2 ∷ []) ++ filled 2)
    ∷ tidies apart (filled 17) (Err Room) (filled 17)
    ∷ tidies (4 ∷ 0 ∷ 2 ∷ 0 ∷ []) [] (Err Head) []
    -- an empty set with l > 0 stays
    ∷ tidies (mask_bytes (block 0 1 1 ∷ [])) (filled 18) (Ok 18) (mask_bytes (block 0 1 1 ∷ []))
    -- not greedy; the two answers, each without the other; the empty code
    ∷ tries C greedy (0 ∷ 0 ∷ []) (Ok (record { mask = true; book = true }))
    ∷ tries C greedy (0 ∷ 1 ∷ []) (Ok (record { mask = false; book = true }))
    ∷ tries C greedy [] (Ok (record { mask = false; book = true }))
    -- a bad book and a bad mask; a bad mask, too long a code and a strange letter; 9, 12 and 13; 12 and 13; 13
    ∷ tries [] (4 ∷ 0 ∷ 1 ∷ 0 ∷ []) [] (Err Unframed)
    ∷ tries C (4 ∷ 0 ∷ 1 ∷ 0 ∷ []) (replicate 1025 2) (Err Kind)
    ∷ tries C foreign (replicate 1025 2) (Err Foreign)
    ∷ tries C greedy (replicate 1025 2) (Err TooLong)
    ∷ tries C greedy (0 ∷ 2 ∷ []) (Err Strange)
    ∷ []
