-- Lists of calls on a sheet, by the definitions that its contracts promise.
use Rattle.std.specs.Prelude.{ℕ, List, [], ◌∷◌, length}
use Rattle.reading.specs.Outcome.{Outcome}
use Rattle.placing.specs.Focus.{focus_of}
use Rattle.sheet.specs.declared.Sheet.{Sheet}
use Rattle.sheet.specs.Sheet.{load_sheet, orient_sheet, cut_sheet, back_sheet}
use Rattle.sheet.specs.Lists.{list_outcome, list_buffer, fit_outcome, fit_buffer}
use Rattle.journal.specs.Journal.{Change, cut, orient, Answer}
use Rattle.journal.specs.Calls.{Call, load, change, back, list, fit}

-- of a call that gives nothing but the sheet, or what else it was called on
abbrev pub after_edit : {A : Type 0} → Outcome (List ℕ) × A → Answer × A
after_edit r = (record { outcome = r.0; buffer = [] }, r.1)

-- of list and fit, which leave it as it is
abbrev pub after_list : {A : Type 0} → Outcome (List ℕ) → List ℕ → A → Answer × A
after_list outcome buffer s = (record { outcome = outcome; buffer = buffer }, s)

abbrev pub changed : Sheet → Change → Outcome (List ℕ) × Sheet
changed s (cut left top width height) = cut_sheet s left top width height
changed s (orient n) = orient_sheet s n

-- how a call ends, and the sheet after it
unfoldable pub sheet_step : Sheet → Call → Answer × Sheet
sheet_step s (load block raw picture model) = after_edit (load_sheet s (focus_of block raw picture model))
sheet_step s (change c) = after_edit (changed s c)
sheet_step s back = after_edit (back_sheet s)
sheet_step s (list buffer) = after_list (list_outcome s (length buffer)) (list_buffer s buffer) s
sheet_step s (fit box buffer) = after_list (fit_outcome s box (length buffer)) (fit_buffer s box buffer) s

-- the answers to a list of calls, and the sheet after it
unfoldable pub run_sheet : Sheet → List Call → List Answer
run_sheet s [] = []
run_sheet s (c ∷ cs) = (sheet_step s c).0 ∷ run_sheet (sheet_step s c).1 cs

unfoldable pub sheet_after : Sheet → List Call → Sheet
sheet_after s [] = s
sheet_after s (c ∷ cs) = sheet_after (sheet_step s c).1 cs
