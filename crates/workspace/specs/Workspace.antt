-- 02, 2026-03 "Named stands": what the calls of a workspace answer and leave, for every workspace. What the sheet answers to its own
-- calls is in sheet, specs/Sheet.antt and Lists.antt.
use Rattle.std.specs.Prelude.{ℕ, suc, ◌+◌, Bool, ◌&&◌, cond, List, [], ◌∷◌, leb, ltb, get_or, length, replicate, set, take, Result}
use Rattle.reading.specs.Outcome.{Outcome, refused, accepted}
use Rattle.reading.specs.declared.geometry.Size.{Size}
use Rattle.placing.specs.Load.{Focus}
use Rattle.sheet.specs.declared.Sheet.{Sheet}
use Rattle.sheet.specs.Sheet.{leaves, kept_by, ends, fresh_sheet, no_edits, loaded_sheet, usable, with_row}
use Rattle.sheet.specs.Lists.{list_outcome, list_buffer, fit_outcome, fit_buffer}
use Rattle.workspace.specs.declared.Checkpoint.{Checkpoint}
use Rattle.workspace.specs.declared.Workspace.{Workspace}
use Rattle.workspace.specs.declared.CheckpointRefusal.{CheckpointRefusal}
use Rattle.workspace.specs.declared.CheckpointRefusal.TheVariants.{Empty, BadName, NinthName, NoSuchName}
use Rattle.workspace.specs.Names.{is_bad_name, in_places, holds_name}

-- ---- what the code's values mean
-- the documents' number for each way in which keep and return are refused
abbrev pub checkpoint_refusal_number : CheckpointRefusal → ℕ
checkpoint_refusal_number Empty = 7
checkpoint_refusal_number BadName = 16
checkpoint_refusal_number NinthName = 17
checkpoint_refusal_number NoSuchName = 18

-- the result of keep or return on w
abbrev pub checkpointed_means : {A : Type 0} → A → Result A CheckpointRefusal → Outcome (List ℕ) × A
checkpointed_means w r = ends checkpoint_refusal_number w r

-- ---- the sheet's calls
-- what stands in a place without a checkpoint
unfoldable pub blank_checkpoint : Checkpoint
blank_checkpoint = record { name = replicate 16 0; len = 0; row = no_edits }

-- a sheet, and no checkpoints
unfoldable pub without_names : Sheet → Workspace
without_names s = record { sheet = s; checkpoints = replicate 8 blank_checkpoint; count = 0 }

abbrev pub fresh_workspace : Workspace
fresh_workspace = without_names fresh_sheet

-- "an accepted load clears all names"; refused, nothing changes
unfoldable pub load_in : Workspace → Outcome Focus → Outcome (List ℕ) × Workspace
load_in w (refused n) = kept_by n w
load_in w (accepted f) = leaves (without_names (loaded_sheet f))

-- another sheet beside the same checkpoints
abbrev pub with_sheet : Workspace → Sheet → Workspace
with_sheet w s = record { sheet = s; checkpoints = w.checkpoints; count = w.count }

-- whether the count lies within the eight places. A workspace made by hand where it does not is empty to every call but load
abbrev pub is_counted : Workspace → Bool
is_counted w = leb w.count 8

-- cut, orientation and back, by how they end on the sheet
unfoldable pub edit_in : Workspace → Outcome (List ℕ) × Sheet → Outcome (List ℕ) × Workspace
edit_in w r = cond (is_counted w) (r.0, with_sheet w r.1) (kept_by 7 w)

-- list and fit, for a buffer of m places, and the buffer that they leave
unfoldable pub list_outcome_in : Workspace → ℕ → Outcome (List ℕ)
list_outcome_in w m = cond (is_counted w) (list_outcome w.sheet m) (refused 7)

unfoldable pub list_buffer_in : Workspace → List ℕ → List ℕ
list_buffer_in w b = cond (is_counted w) (list_buffer w.sheet b) b

unfoldable pub fit_outcome_in : Workspace → Size → ℕ → Outcome (List ℕ)
fit_outcome_in w box m = cond (is_counted w) (fit_outcome w.sheet box m) (refused 7)

unfoldable pub fit_buffer_in : Workspace → Size → List ℕ → List ℕ
fit_buffer_in w box b = cond (is_counted w) (fit_buffer w.sheet box b) b

-- ---- keep and return
-- a workspace that keep and return take for a loaded one
abbrev pub usable_in : Workspace → Bool
usable_in w = is_counted w && usable w.sheet

-- what both test first: 7 "sheet is empty", 16 "name empty or too long"
unfoldable pub if_named : Workspace → List ℕ → Outcome (List ℕ) × Workspace → Outcome (List ℕ) × Workspace
if_named w name r = cond (usable_in w) (cond (is_bad_name name) (kept_by 16 w) r) (kept_by 7 w)

-- the place of a name: how many checkpoints stand before the first that has it, all of them where none has
unfoldable pub place_among : List ℕ → List Checkpoint → ℕ
place_among name [] = 0
place_among name (p ∷ ps) = cond (holds_name name p.name p.len) 0 (suc (place_among name ps))

abbrev pub place_of : Workspace → List ℕ → ℕ
place_of w name = place_among name (take w.count w.checkpoints)

-- the standing edits under a name
unfoldable pub checkpoint_of : Sheet → List ℕ → Checkpoint
checkpoint_of s name = record { name = in_places name; len = length name; row = s.row }

-- the standing edits kept at a place: "a name kept again is replaced", a new one takes the next place
unfoldable pub keep_at : Workspace → List ℕ → ℕ → Workspace
keep_at w name at =
    record {
      sheet = w.sheet;
      checkpoints = set w.checkpoints at (checkpoint_of w.sheet name);
      count = cond (ltb at w.count) w.count (at + 1);
    }

-- "Keep the standing edits under a name .., at most eight names": 7, 16, then 17 "a ninth name"
unfoldable pub keep_in : Workspace → List ℕ → Outcome (List ℕ) × Workspace
keep_in w name =
    if_named w name
    (cond (ltb (place_of w name) 8) (leaves (keep_at w name (place_of w name))) (kept_by 17 w))

-- what the checker reads past the places' end
abbrev pub no_checkpoint : Checkpoint
no_checkpoint = record { name = []; len = 0; row = record { edits = []; count = 0 } }

-- the edits kept at a place are the standing ones. By hand, where they are more than 64, the sheet is not usable then
unfoldable pub return_at : Workspace → ℕ → Workspace
return_at w at =
    with_sheet w (with_row w.sheet (get_or w.checkpoints at no_checkpoint).row)

-- "Coming back makes the kept edits the standing ones": 7, 16, then 18 "no such name"
unfoldable pub return_in : Workspace → List ℕ → Outcome (List ℕ) × Workspace
return_in w name =
    if_named w name
    (cond (ltb (place_of w name) w.count) (leaves (return_at w (place_of w name))) (kept_by 18 w))
