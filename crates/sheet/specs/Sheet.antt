-- 01, "Sheet": what load, cut, 02's orientation and back answer and leave, for every sheet.
use Rattle.std.specs.Prelude.{ℕ, ◌+◌, ◌-◌, Bool, ◌&&◌, cond, List, [], leb, ltb, eqb, get_or, replicate, set, Result, Ok, Err, Option, Some, None}
use Rattle.std.specs.Option.{is_some, unwrap_or}
use Rattle.reading.specs.Outcome.{Outcome, refused, accepted}
use Rattle.reading.specs.declared.geometry.Size.{Size}
use Rattle.reading.specs.declared.focus.FocusAreaMode.TheVariants.{NoMode}
use Rattle.placing.specs.declared.load.FocusOrigin.TheVariants.{Recorded}
use Rattle.placing.specs.Load.{Focus, no_point}
use Rattle.placing.specs.declared.load.Refusal.{Refusal}
use Rattle.placing.specs.declared.load.FocusPoints.{FocusPoints}
use Rattle.placing.specs.Laid.{laid_focus, refusal_number}
use Rattle.sheet.specs.declared.edits.Edit.{Edit}
use Rattle.sheet.specs.declared.edits.Row.{Row}
use Rattle.sheet.specs.declared.edits.Edit.TheVariants.{Orient, Cut}
use Rattle.sheet.specs.declared.edits.Carried.{Carried}
use Rattle.sheet.specs.declared.orientation.Orientation.{Orientation}
use Rattle.sheet.specs.declared.Sheet.{Sheet}
use Rattle.sheet.specs.declared.edits.EditRefusal.{EditRefusal}
use Rattle.placing.specs.Fit.{by}
use Rattle.sheet.specs.Answer.{edit_refusal_number}
use Rattle.sheet.specs.Orientation.{orientation_of}
use Rattle.sheet.specs.Place.{rectangle, blank_edit, moved, placed, is_good_cut}

-- how a call ends that gives nothing but the sheet, or what else it was called on. Accepted, it leaves this one
abbrev pub leaves : {A : Type 0} → A → Outcome (List ℕ) × A
leaves s = (accepted [], s)

-- refused by one of the documents' numbers: "sheet kept"
abbrev pub kept_by : {A : Type 0} → ℕ → A → Outcome (List ℕ) × A
kept_by n s = (refused n, s)

-- what the result of a call on s means, by the documents' numbers of its refusals
abbrev pub ends : {A E : Type 0} → (E → ℕ) → A → Result A E → Outcome (List ℕ) × A
ends number s (Ok t) = leaves t
ends number s (Err why) = kept_by (number why) s

-- of cut, orient and back, and of load
abbrev pub edited_means : {A : Type 0} → A → Result A EditRefusal → Outcome (List ℕ) × A
edited_means s r = ends edit_refusal_number s r

abbrev pub loaded_means : {A : Type 0} → A → Result A Refusal → Outcome (List ℕ) × A
loaded_means s r = ends refusal_number s r

-- a row without an edit
unfoldable pub no_edits : Row
no_edits = record { edits = replicate 64 blank_edit; count = 0 }

-- "the fresh sheet, which is empty"
unfoldable pub fresh_sheet : Sheet
fresh_sheet = record { load = None; row = no_edits }

-- a load's sheet: its "frame, points in order, primary, area mode and origin .., and no edits"
unfoldable pub loaded_sheet : Focus → Sheet
loaded_sheet f = record { load = Some (laid_focus f); row = no_edits }

-- what is read where nothing is loaded
abbrev pub no_focus : FocusPoints
no_focus =
    record {
      frame = by 0 0;
      points = replicate 39 no_point;
      count = 0;
      primary = 0;
      area_mode = NoMode;
      origin = Recorded;
    }

unfoldable pub focus_in : Option FocusPoints → FocusPoints
focus_in load = unwrap_or load no_focus

-- the load that a sheet holds
abbrev pub load_on : Sheet → FocusPoints
load_on s = focus_in s.load

-- "accepted, it replaces sheet and edits"; refused, "sheet kept"
unfoldable pub load_sheet : Sheet → Outcome Focus → Outcome (List ℕ) × Sheet
load_sheet s (refused n) = kept_by n s
load_sheet s (accepted f) = leaves (loaded_sheet f)

-- a sheet that every call but load takes for a loaded one. Any other is empty to them: a fresh one, and one made by hand
-- whose counts pass its places or whose primary is no point
unfoldable pub usable : Sheet → Bool
usable s =
    is_some s.load && (leb (load_on s).count 39 && (ltb (load_on s).primary (load_on s).count && leb s.row.count 64))

-- a point of the load, where the standing edits carry it
unfoldable pub placed_at : Sheet → ℕ → Carried
placed_at s i = placed (load_on s).frame (get_or (load_on s).points i no_point) s.row.edits s.row.count

-- "The present frame is the load's, changed by each standing edit in order": the one that the primary is in
unfoldable pub present_frame : Sheet → Size
present_frame s = (placed_at s (load_on s).primary).frame

-- a sheet with another row of edits
abbrev pub with_row : Sheet → Row → Sheet
with_row s r = record { load = s.load; row = r }

-- a row with one more edit behind those that stand
abbrev pub joined_by : Row → Edit → Row
joined_by r e = record { edits = set r.edits r.count e; count = r.count + 1 }

-- a row without its last edit
abbrev pub without_last : Row → Row
without_last r = record { edits = r.edits; count = r.count - 1 }

-- "An accepted cut, turn or mirror joins the row's end", an orientation where they were two: "Each is a single edit."
unfoldable pub add_edit : Sheet → Edit → Sheet
add_edit s e = with_row s (joined_by s.row e)

-- what cut and orientation test first: 7 "sheet is empty", 8 "64 edits stand"
unfoldable pub if_open : Sheet → Outcome (List ℕ) × Sheet → Outcome (List ℕ) × Sheet
if_open s r = cond (usable s) (cond (ltb s.row.count 64) r (kept_by 8 s)) (kept_by 7 s)

-- "Turn and mirror merge into one call with that number": 15 "number outside 1 to 8, after 8"
abbrev pub orient_to : Sheet → Outcome Orientation → Outcome (List ℕ) × Sheet
orient_to s (refused n) = kept_by n s
orient_to s (accepted o) = leaves (add_edit s (Orient o))

unfoldable pub orient_sheet : Sheet → ℕ → Outcome (List ℕ) × Sheet
orient_sheet s number = if_open s (orient_to s (orientation_of number))

-- 10, "cut would drop the primary": whether the primary is listed after one more edit
unfoldable pub keeps_primary : Sheet → Edit → Bool
keeps_primary s e = (moved e (placed_at s (load_on s).primary)).listed

-- "Cut left, top, width, height": 9 "cut has a zero side or passes the present frame", then 10
unfoldable pub cut_sheet : Sheet → ℕ → ℕ → ℕ → ℕ → Outcome (List ℕ) × Sheet
cut_sheet s l t w h =
    if_open s
    (cond (is_good_cut l t w h (present_frame s))
    (cond (keeps_primary s (Cut (rectangle l t w h)))
    (leaves (add_edit s (Cut (rectangle l t w h))))
    (kept_by 10 s))
    (kept_by 9 s))

-- "Back removes the last edit": 7 "sheet is empty", 11 "no edit stands"
unfoldable pub back_sheet : Sheet → Outcome (List ℕ) × Sheet
back_sheet s =
    cond (usable s)
    (cond (eqb s.row.count 0) (kept_by 11 s)
    (leaves (with_row s (without_last s.row))))
    (kept_by 7 s)
