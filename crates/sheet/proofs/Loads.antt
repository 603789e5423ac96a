-- A load on a sheet, from what `focus` ensures: refused, the sheet is kept; points, they are the sheet's. Assumes nothing.
use Rattle.std.specs.Prelude.{Ok, Err, Some}
use mathlib.Core.Path.{◌≡◌, sym, ap, ◌∙◌}
use Rattle.reading.specs.Outcome.{Outcome}
use Rattle.placing.specs.declared.load.Refusal.{Refusal}
use Rattle.placing.specs.declared.load.FocusPoints.{FocusPoints}
use Rattle.placing.specs.Load.{Focus}
use Rattle.placing.specs.Laid.{refusal_number, focus_means, laid_out}
use Rattle.placing.proofs.Means.{IsLaid, when_refused, when_accepted}
use Rattle.sheet.specs.declared.Sheet.{Sheet}
use Rattle.sheet.specs.Sheet.{leaves, kept_by, no_edits, loaded_sheet, load_sheet}

-- the sheet of what a load laid out
abbrev sheet_of : FocusPoints → Sheet
sheet_of l = record { load = Some l; row = no_edits }

pub keeps : (s : Sheet) (o : Outcome Focus) (why : Refusal) → focus_means (Err why) ≡ laid_out o → kept_by (refusal_number why) s ≡ load_sheet s o
unfolding load_sheet
keeps s o why e = rw (when_refused o why e)

replaced : (s : Sheet) (o : Outcome Focus) (l : FocusPoints) → IsLaid o l → leaves (sheet_of l) ≡ load_sheet s o
unfolding load_sheet loaded_sheet
replaced s o l k = ap (λ (x : FocusPoints). leaves (sheet_of x)) k.laid ∙ ap (load_sheet s) (sym k.is)

pub replaces : (s : Sheet) (o : Outcome Focus) (l : FocusPoints) → focus_means (Ok l) ≡ laid_out o → leaves (sheet_of l) ≡ load_sheet s o
replaces s o l e = replaced s o l (when_accepted o l e)
