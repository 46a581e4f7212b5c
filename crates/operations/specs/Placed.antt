-- Place (01, "The four operations"): its checks, its answer, and what it means.
use Rattle.std.specs.Prelude.{ℕ, ◌-◌, ◌<◌, ◌≡◌, ◌↔◌, Bool, ◌||◌, Option, Result, Ok, Err, List, length, ◌==◌, nat_lt}
use Rattle.model.specs.declared.Block.{Block}
use Rattle.model.specs.declared.Refusal.{Refusal}
use Rattle.model.specs.declared.Refusal.TheVariants.{Missing}
use Rattle.model.specs.Refusal.{number as refusal_number_of, accepted, refuse, and_then, unless}
use Rattle.model.specs.Set.{Member}
use Rattle.model.specs.DashedString.{block_at}
use Rattle.model.specs.Automaton.{Dfa}
use Rattle.model.specs.Passes.{narrowed_list}
use Rattle.model.specs.Verdict.{verdict}
use Rattle.model.specs.Place.{unless_none, place}
use Rattle.model.specs.Demand3.{Has, Puts}
use Rattle.records.specs.Book.{book_of}
use Rattle.records.specs.Mask.{mask_of}
use Rattle.operations.specs.Pair.{pair_refusal}

-- check 11: a block number of 0 or above k, or a place above l
unfoldable pub missing : List Block → ℕ → ℕ → Bool
missing xs i j = i == 0 || nat_lt (length xs) i || nat_lt (block_at xs (i - 1)).lower j

-- place's checks: those of a book and a mask, then 11
unfoldable pub place_refusal : List ℕ → List ℕ → ℕ → ℕ → Option Refusal
place_refusal bs ms i j = and_then (pair_refusal bs ms) (refuse (missing (mask_of ms) i j) Missing accepted)

-- entry n, from 0, of the narrowed list; for none, the empty set and bounds 0, 0
abbrev pub entry_at : Dfa → List Block → ℕ → Block
entry_at b xs n = unless_none (verdict b xs) (block_at (narrowed_list b xs) n)

-- place's answer: the set and bounds, or the refusal
unfoldable pub placed : List ℕ → List ℕ → ℕ → ℕ → Result Block Refusal
placed bs ms i j = unless (place_refusal bs ms i j) (place (book_of bs) (mask_of ms) i j)

-- the numbers that a host asks for: the refusal, 0 for none; the set, and its two bounds
pub record PlaceNumbers : Type 0 where
  pub refusal : ℕ
  pub set : ℕ
  pub lower : ℕ
  pub upper : ℕ

-- 01's numbers of each answer
abbrev pub place_numbers : Result Block Refusal → PlaceNumbers
place_numbers (Ok x) = record { refusal = 0; set = x.base; lower = x.lower; upper = x.upper }
place_numbers (Err r) = record { refusal = refusal_number_of r; set = 0; lower = 0; upper = 0 }

-- what place promises of its answer, and what it means (demand 3): a letter stands in a mandatory place, that is, in the set
-- returned for it, exactly when some legal code, in some cut, has it there
pub record Places (bs ms : List ℕ) (i j : ℕ) (a : Result Block Refusal) : Type 0 where
  pub answer : a ≡ placed bs ms i j
  pub letters : (x : Block) → a ≡ Ok x → 0 < j → (c : ℕ) → Member c x.base ↔ Has (book_of bs) (mask_of ms) (Puts c (i - 1) (j - 1))
