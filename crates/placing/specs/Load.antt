-- What one load comes to: the frame, the points in order, the primary's index, the area mode and the origin.
use Rattle.std.specs.Prelude.{ℕ, List, [], ◌∷◌}
use Rattle.reading.specs.Outcome.{Outcome, accepted}
use Rattle.reading.specs.declared.geometry.Size.{Size}
use Rattle.reading.specs.declared.focus.InFocus.TheVariants.{Unrecorded}
use Rattle.reading.specs.declared.focus.FocusAreaMode.{FocusAreaMode}
use Rattle.placing.specs.declared.focus.FocusPoint.{FocusPoint}
use Rattle.placing.specs.declared.load.FocusOrigin.{FocusOrigin}
use Rattle.placing.specs.declared.load.FocusOrigin.TheVariants.{Recorded, Table}

-- "the frame, points in order, primary, area mode and origin": the points are a list, the primary is an index into it
pub record Focus : Type 0 where
  pub frame : Size
  pub points : List FocusPoint
  pub primary : ℕ
  pub mode : FocusAreaMode
  pub origin : FocusOrigin

-- "origin (1 recorded, 2 table)"
unfoldable pub origin_number : FocusOrigin → ℕ
origin_number Recorded = 1
origin_number Table = 2

-- what stands in a place without a point
abbrev pub no_point : FocusPoint
no_point =
    record {
      number = 0;
      center = record { x = 0; y = 0 };
      size = record { width = 0; height = 0 };
      in_focus = Unrecorded;
    }

-- one point alone, which is the primary: the origin is 01's 'recorded'
abbrev pub alone : Size → FocusPoint → FocusAreaMode → Outcome Focus
alone f p m = accepted (record { frame = f; points = p ∷ []; primary = 0; mode = m; origin = Recorded })
