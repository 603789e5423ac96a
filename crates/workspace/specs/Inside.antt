-- What only the code of this crate needs: no promise to a caller rests on it.
use Rattle.std.specs.Prelude.{◌≡◌, ℕ, true, false, List, Result, MatchResult, ⊤}
use Rattle.reading.specs.Outcome.{Outcome}
use Rattle.sheet.specs.Sheet.{kept_by}
use Rattle.workspace.specs.declared.Workspace.{Workspace}
use Rattle.workspace.specs.declared.CheckpointRefusal.{CheckpointRefusal}
use Rattle.workspace.specs.Names.{is_bad_name}
use Rattle.workspace.specs.Workspace.{checkpoint_refusal_number, usable_in, if_named}

-- what keep and return test first: past it the workspace is usable and the name is good; refused, it is how they end
abbrev pub Named : Workspace → List ℕ → Result ⊤ CheckpointRefusal → Type 0
Named w name r =
    MatchResult r (λ _. (usable_in w ≡ true) × (is_bad_name name ≡ false))
    (λ why. (x : Outcome (List ℕ) × Workspace) → if_named w name x ≡ kept_by (checkpoint_refusal_number why) w)
