-- A recorded position that is placed fits its frame. The idea: every definition ends in a test that the point fits, or scales a point
-- that fits. Assumes nothing.
use Rattle.std.specs.Prelude.{Option, Some, None}
use Rattle.reading.specs.declared.nikon.CropHiSpeed.{CropHiSpeed}
use mathlib.Core.Path.{◌≡◌}
use mathlib.Core.Bool.{true, ◌&&◌}
use lib.Dec.{eqb}
use Rattle.reading.specs.Outcome.{Outcome, refused, accepted}
use Rattle.reading.specs.declared.geometry.Size.{Size}
use Rattle.reading.specs.declared.nikon.CropArea.{CropArea}
use Rattle.reading.specs.declared.nikon.CropArea.TheVariants.{Absent, Unusable, Window}
use Rattle.placing.specs.declared.focus.FocusPoint.{FocusPoint}
use Rattle.placing.specs.Fit.{has_zero_side, point_fits, same_size}
use Rattle.placing.specs.Scale.{scaled_point}
use Rattle.placing.proofs.Scaled.{scaled_fits}
use Rattle.laws.proofs.Tests.{by_cond, both}
use Rattle.placing.specs.declared.focus.Framed.{Framed}
use Rattle.placing.specs.Recorded.{point_in, cut_of, scaled_to, shifts, moved_point, in_window, onto_window, shaped_window, onto_picture, onto, by_crop, position_of}
use Rattle.placing.specs.declared.recorded.CutSides.{CutSides}
use Rattle.placing.specs.declared.recorded.CutSides.TheVariants.{Other, Both, Width, Height}

-- a placement's point fits its frame
unfoldable pub Fits : Outcome Framed → Type 0
Fits (refused n) = Unit {0}
Fits (accepted q) = point_fits q.frame q.point ≡ true

module _ (p : FocusPoint) (f : Size) (h : point_fits f p ≡ true) where
  as_recorded : Fits (point_in f p)
  unfolding Fits
  as_recorded = h

  scaled : (t : Size) → Fits (scaled_to p f t)
  unfolding Fits scaled_to
  scaled t = by_cond Fits (has_zero_side t) {x = refused 5} {y = point_in t (scaled_point p f t)} (λ e. tt) (λ e. scaled_fits p f t h e)

  moved : (w : Size) → Fits (in_window p f w)
  unfolding Fits in_window
  moved w =
      by_cond Fits
      (shifts p.center.x f.width w.width && shifts p.center.y f.height w.height && point_fits w (moved_point p f w))
      {x = point_in w (moved_point p f w)} {y = refused 5}
      (λ e. (both (shifts p.center.x f.width w.width && shifts p.center.y f.height w.height) (point_fits w (moved_point p f w)) e).1)
      (λ e. tt)

  on_window : (c : CutSides) (w : Size) → Fits (onto_window c p f w)
  unfolding Fits
  on_window Both w = scaled w
  on_window Width w = by_cond Fits (eqb w.height f.height) {x = in_window p f w} {y = refused 5} (λ e. moved w) (λ e. tt)
  on_window Height w = by_cond Fits (eqb w.width f.width) {x = in_window p f w} {y = refused 5} (λ e. moved w) (λ e. tt)
  on_window Other w = tt

  on_picture : (c : CutSides) (t : Size) → Fits (onto_picture c p f t)
  unfolding Fits onto_picture
  on_picture c t =
      by_cond Fits (has_zero_side t) {x = refused 5} {y = onto_window c p f (shaped_window c f t)} (λ e. tt) (λ e. on_window c (shaped_window c f t))

  on_crop_lem : (c : CutSides) (a : CropArea) (t : Option Size) → Fits (onto c p f a t)
  unfolding Fits
  on_crop_lem c Unusable t = tt
  on_crop_lem c (Window w) t = on_window c w
  on_crop_lem c Absent None = h
  on_crop_lem c Absent (Some t) = on_picture c t

  of_crop : (k : Option CropHiSpeed) (a : CropArea) (t : Option Size) → Fits (by_crop p f k a t)
  unfolding Fits
  of_crop None a t = h
  of_crop (Some c) a t =
      by_cond Fits (same_size c.cropped c.original) {x = point_in f p} {y = onto (cut_of c) p f a t} (λ e. h) (λ e. on_crop_lem (cut_of c) a t)

pub position_fits : (p : FocusPoint) (f : Size) (k : Option CropHiSpeed) (a : CropArea) (t : Option Size) → Fits (position_of p f k a t)
unfolding Fits position_of
position_fits p f k a t = by_cond Fits (point_fits f p) {x = by_crop p f k a t} {y = refused 5} (λ e. of_crop p f e k a t) (λ e. tt)
