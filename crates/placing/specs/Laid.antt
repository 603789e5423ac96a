-- How the code lays out what a load comes to: refused by 01's number, or the fields of its value, the unused places among them.
use Rattle.std.specs.Prelude.{ℕ, ◌-◌, List, ◌++◌, length, replicate, Result, Ok, Err}
use Rattle.reading.specs.Outcome.{Outcome, refused, accepted}
use Rattle.placing.specs.declared.focus.FocusPoint.{FocusPoint}
use Rattle.placing.specs.declared.load.Refusal.{Refusal}
use Rattle.placing.specs.declared.load.Refusal.TheVariants.{Unreadable, NoRecord, ManualFocus, BadRecord, PositionUnplaced, NamesUnplaced}
use Rattle.placing.specs.declared.load.FocusPoints.{FocusPoints}
use Rattle.placing.specs.Load.{Focus, no_point}

-- 01's number for each way in which a load is refused
unfoldable pub refusal_number : Refusal → ℕ
refusal_number Unreadable = 1
refusal_number NoRecord = 2
refusal_number ManualFocus = 3
refusal_number BadRecord = 4
refusal_number PositionUnplaced = 5
refusal_number NamesUnplaced = 6

-- "39 places and a count": the points, and then places without one
unfoldable pub places : List FocusPoint → List FocusPoint
places ps = ps ++ replicate (39 - length ps) no_point

-- the fields of the code's value for a load
unfoldable pub laid_focus : Focus → FocusPoints
laid_focus f =
    record {
      frame = f.frame;
      points = places f.points;
      count = length f.points;
      primary = f.primary;
      area_mode = f.mode;
      origin = f.origin;
    }

-- what a load comes to: refused by 01's number, or what then stands in the fields
unfoldable pub laid_out : Outcome Focus → Outcome FocusPoints
laid_out (refused n) = refused n
laid_out (accepted f) = accepted (laid_focus f)

-- what the code's value means: refused by 01's number, or the fields
abbrev pub focus_means : Result FocusPoints Refusal → Outcome FocusPoints
focus_means (Err why) = refused (refusal_number why)
focus_means (Ok r) = accepted r
