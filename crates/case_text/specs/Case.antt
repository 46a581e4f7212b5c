-- The lines of the input, and the cases among them.
use Rattle.std.specs.Prelude.{ℕ, ◌≡◌, ◌≢◌, ◌⊎◌, ◌<◌, List, [], ◌∷◌, length, map, slice_index, Option, Result, Ok}
use Rattle.std.specs.Borrow.{Bor, MutBor}
use Rattle.std.specs.Iterator.{Drains}
use Rattle.std.specs.List.{FoldsTo}
use Rattle.case_text.specs.Split.{SplitAt}

-- an empty line and one that starts with `#` are none
abbrev pub IsCase : List ℕ → Type 0
IsCase line = 0 < length line × slice_index line 0 ≢ 35

-- what lies behind the first colon of a line and a blank; none where the blank or the colon is missing
abbrev pub CaseOf : List ℕ → List ℕ → Type 0
CaseOf line case =
    (name rest : List ℕ) × SplitAt 58 line name rest × ((rest ≡ 32 ∷ case) ⊎ ((case ≡ []) × ((other : List ℕ) → rest ≢ 32 ∷ other)))

-- a call of a closure with the case of the line took it from f to h, and went well; no call where the line is no case
abbrev pub Answered : {F W T E : Type 0} → (F → MutBor W → Bor (List ℕ) → Result T E → MutBor W → F → Type 0) → F → List ℕ → F → Type 0
Answered {F} {W} {T} {E} step f line h =
    (IsCase line × ((out new : MutBor W) × (case : Bor (List ℕ)) × (went : T) × CaseOf line case.now × step f out case (Ok went) new h))
    ⊎ (¬ (IsCase line) × (h ≡ f))

-- the iterator was run to its end, and the closure called in order with the case of each line that is one
abbrev pub Ran : {S F W T E : Type 0} → (S → Option (Bor (List ℕ)) → S → Type 0) → (F → MutBor W → Bor (List ℕ) → Result T E → MutBor W → F → Type 0) → S → F → Type 0
Ran {S} {F} next step lines answer =
    (given : List (Bor (List ℕ))) × (last : F) × Drains next lines given × FoldsTo (Answered step) answer (map (λ line. line.now) given) last
