-- What only the code needs: what its own helpers give.
use Rattle.std.specs.Prelude.{List, ◌≡◌, ◌⊎◌, ℕ}
use mathlib.Core.List.{[], ◌∷◌, ◌++◌}

-- a line is what it was with a feed behind it, or is as it was, and then ends with none
abbrev pub IsUnfed : List ℕ → List ℕ → Type 0
IsUnfed fed line = (fed ≡ line ++ (10 ∷ [])) ⊎ ((fed ≡ line) × ((before : List ℕ) → fed ≡ before ++ (10 ∷ []) → ⊥))
