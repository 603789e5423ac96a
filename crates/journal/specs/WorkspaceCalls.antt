-- Lists of calls on a workspace, by the definitions that its contracts promise.
use Rattle.std.specs.Prelude.{List, [], ◌∷◌, length}
use Rattle.placing.specs.Focus.{focus_of}
use Rattle.sheet.specs.Sheet.{back_sheet}
use Rattle.workspace.specs.declared.Workspace.{Workspace}
use Rattle.workspace.specs.Workspace.{load_in, edit_in, list_outcome_in, list_buffer_in, fit_outcome_in, fit_buffer_in, keep_in, return_in}
use Rattle.journal.specs.Journal.{Answer}
use Rattle.journal.specs.Calls.{Call, load, change, back, list, fit}
use Rattle.journal.specs.SheetCalls.{changed, after_edit, after_list}
use Rattle.journal.specs.WorkspaceJournal.{WorkspaceCall, on_sheet, keep, return}

-- how a call of the sheet ends, and the workspace after it
unfoldable pub sheet_step_in : Workspace → Call → Answer × Workspace
sheet_step_in w (load block raw picture model) = after_edit (load_in w (focus_of block raw picture model))
sheet_step_in w (change c) = after_edit (edit_in w (changed w.sheet c))
sheet_step_in w back = after_edit (edit_in w (back_sheet w.sheet))
sheet_step_in w (list buffer) = after_list (list_outcome_in w (length buffer)) (list_buffer_in w buffer) w
sheet_step_in w (fit box buffer) = after_list (fit_outcome_in w box (length buffer)) (fit_buffer_in w box buffer) w

-- how any call ends
unfoldable pub workspace_step : Workspace → WorkspaceCall → Answer × Workspace
workspace_step w (on_sheet c) = sheet_step_in w c
workspace_step w (keep name) = after_edit (keep_in w name)
workspace_step w (return name) = after_edit (return_in w name)

-- the answers to a list of calls, and the workspace after it
unfoldable pub run_workspace : Workspace → List WorkspaceCall → List Answer
run_workspace w [] = []
run_workspace w (c ∷ cs) = (workspace_step w c).0 ∷ run_workspace (workspace_step w c).1 cs

unfoldable pub workspace_after : Workspace → List WorkspaceCall → Workspace
workspace_after w [] = w
workspace_after w (c ∷ cs) = workspace_after (workspace_step w c).1 cs
