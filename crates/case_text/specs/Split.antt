-- A text cut in two at a byte.
use Rattle.std.specs.Prelude.{ℕ, ◌≡◌, ◌≢◌, ◌⊎◌, List, [], ◌∷◌, ◌++◌, All}

-- what lies before the first such byte, and what lies behind it; all of it and none where there is no such byte
abbrev pub SplitAt : ℕ → List ℕ → List ℕ → List ℕ → Type 0
SplitAt byte text before behind =
    All (λ other. other ≢ byte) before × ((text ≡ before ++ byte ∷ behind) ⊎ ((text ≡ before) × (behind ≡ [])))
