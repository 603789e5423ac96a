-- 01, "Recorded position": a point with its area, in a frame, placed on the picture that a crop leaves.
use Rattle.std.specs.Prelude.{ℕ, ◌-◌, ◌/◌, Bool, cond, ◌&&◌, leb, ltb, eqb, Option, Some, None}
use Rattle.reading.specs.Outcome.{Outcome, refused, accepted}
use Rattle.reading.specs.declared.geometry.Size.{Size}
use Rattle.reading.specs.declared.nikon.CropHiSpeed.{CropHiSpeed}
use Rattle.reading.specs.declared.nikon.CropArea.{CropArea}
use Rattle.reading.specs.declared.nikon.CropArea.TheVariants.{Absent, Unusable, Window}
use Rattle.placing.specs.declared.focus.FocusPoint.{FocusPoint}
use Rattle.placing.specs.Fit.{has_zero_side, point_fits, same_size}
use Rattle.placing.specs.Scale.{scale_of, scaled_point}
use Rattle.placing.specs.declared.focus.Framed.{Framed}
use Rattle.placing.specs.declared.recorded.CutSides.{CutSides}
use Rattle.placing.specs.declared.recorded.CutSides.TheVariants.{Other, Both, Width, Height}

-- the point is placed, in this frame
abbrev pub point_in : Size → FocusPoint → Outcome Framed
point_in f p = accepted (record { frame = f; point = p })

-- what the code's answer means in 01's numbers
abbrev pub position_means : Option Framed → Outcome Framed
position_means None = refused 5
position_means (Some q) = accepted q

-- "Cropped less on both sides"; "Less on one, equal on the other"; "Any other crop"
unfoldable pub cut_between : Size → Size → CutSides
cut_between old new =
    cond (ltb new.width old.width && ltb new.height old.height) Both
    (cond (ltb new.width old.width && eqb new.height old.height) Width
    (cond (eqb new.width old.width && ltb new.height old.height) Height
    Other))

abbrev pub cut_of : CropHiSpeed → CutSides
cut_of c = cut_between c.original c.cropped

-- "scale to the target (a zero side: 5)"
unfoldable pub scaled_to : FocusPoint → Size → Size → Outcome Framed
scaled_to p f t = cond (has_zero_side t) (refused 5) (point_in t (scaled_point p f t))

-- "floor((frame − window)/2)": one axis
unfoldable pub offset_in : ℕ → ℕ → ℕ
offset_in frame window = (frame - window) / 2

-- the window's side does "not exceed" the frame's, and a coordinate that loses the offset is not "below zero": one axis
unfoldable pub shifts : ℕ → ℕ → ℕ → Bool
shifts center frame window = leb window frame && leb (offset_in frame window) center

-- "each centre coordinate loses floor((frame − window)/2)"
unfoldable pub moved_point : FocusPoint → Size → Size → FocusPoint
moved_point p f w =
    record {
      number = p.number;
      center =
          record {
            x = p.center.x - offset_in f.width w.width;
            y = p.center.y - offset_in f.height w.height;
          };
      size = p.size;
      in_focus = p.in_focus;
    }

-- "below zero, or not fitting the window as frame: 5"
unfoldable pub in_window : FocusPoint → Size → Size → Outcome Framed
in_window p f w =
    cond
    (shifts p.center.x f.width w.width && shifts p.center.y f.height w.height &&
    point_fits w (moved_point p f w))
    (point_in w (moved_point p f w))
    (refused 5)

-- "Cropped less on both sides: scale to the target"; less on one: "The uncut side must equal the frame's"; "Any other crop: 5."
abbrev pub onto_window : CutSides → FocusPoint → Size → Size → Outcome Framed
onto_window Both p f w = scaled_to p f w
onto_window Width p f w = cond (eqb w.height f.height) (in_window p f w) (refused 5)
onto_window Height p f w = cond (eqb w.width f.width) (in_window p f w) (refused 5)
onto_window Other p f w = refused 5

-- "with only a picture size (zero side: 5), the cut side becomes scale(uncut frame side, the picture's same side, its other side)"
abbrev pub shaped_window : CutSides → Size → Size → Size
shaped_window Width f t = record { width = scale_of f.height t.height t.width; height = f.height }
shaped_window Height f t = record { width = f.width; height = scale_of f.width t.width t.height }
shaped_window Both f t = t
shaped_window Other f t = t

unfoldable pub onto_picture : CutSides → FocusPoint → Size → Size → Outcome Framed
onto_picture cut p f t = cond (has_zero_side t) (refused 5) (onto_window cut p f (shaped_window cut f t))

-- "Else unusable window: 5. Window absent and no picture size: as recorded. Else the target is the window, or the picture size."
abbrev pub onto : CutSides → FocusPoint → Size → CropArea → Option Size → Outcome Framed
onto cut p f Unusable picture = refused 5
onto cut p f (Window w) picture = onto_window cut p f w
onto cut p f Absent None = point_in f p
onto cut p f Absent (Some t) = onto_picture cut p f t

-- "No crop, or cropped = original: as recorded."
abbrev pub by_crop : FocusPoint → Size → Option CropHiSpeed → CropArea → Option Size → Outcome Framed
by_crop p f None area picture = point_in f p
by_crop p f (Some c) area picture =
    cond (same_size c.cropped c.original) (point_in f p) (onto (cut_of c) p f area picture)

-- "Centre and area must fit."
unfoldable pub position_of : FocusPoint → Size → Option CropHiSpeed → CropArea → Option Size → Outcome Framed
position_of p f crop area picture = cond (point_fits f p) (by_crop p f crop area picture) (refused 5)
