-- A box that is the present frame, once or some times, is accepted, and what is fitted in it is exact. The idea: the primary is listed
-- and fits the present frame, so that no side of that is zero; a frame has its own shape so many times; and scaling a point that fits is
-- then a multiplication. Assumes nothing.
use Prim.Native.Nat.{ℕ, ◌*◌, ◌≤◌, ◌<◌}
use mathlib.Core.List.{List, [], ◌∷◌, map}
use mathlib.Core.Path.{◌≡◌, refl, sym, ap, ap₂, ◌∙◌}
use native.Mathlib.Nat.{one-mul, mul-pos}
use native.Mathlib.Omega.{arith}
use Rattle.reading.specs.declared.geometry.Size.{Size}
use Rattle.placing.specs.declared.focus.FocusPoint.{FocusPoint}
use Rattle.placing.specs.Fit.{by}
use Rattle.placing.specs.Load.{Focus}
use Rattle.placing.specs.Scale.{scaled_point}
use Rattle.placing.specs.Sound.{AllFit}
use Rattle.placing.proofs.Fitting.{no_zero_side, fits_on_frame}
use Rattle.shape.specs.ShapeLaws.{times, times_point}
use Rattle.shape.proofs.Shapes.{times_shape}
use Rattle.shape.proofs.Times.{scaled_times}
use Rattle.shape.proofs.Blank.{two_sides_stay}
use Rattle.journal.specs.Journal.{Change, holds, present_frame, listing, primary_index, written, journal_list, answer_in_box, journal_fit}
use Rattle.journal.specs.Calls.{Call, list, fit, journal_step}
use Rattle.journal.specs.Claim.{after}
use Rattle.journal.specs.Laws.{FitsTimes, FitsTheFrame}
use Rattle.journal.proofs.Answers.{answered}
use Rattle.journal.proofs.Holds.{right, listed_fits}
use Rattle.journal.proofs.Shown.{primary_is_listed, listed_fits_frame}

module _ (k : ℕ) (g : Size) (pos : 0 < k) (w : k * g.width ≤ 4294967295) (h : k * g.height ≤ 4294967295) where
  all_times : (ps : List FocusPoint) → AllFit g ps → map (λ (p : FocusPoint). scaled_point p g (times k g)) ps ≡ map (times_point k) ps
  all_times [] t = refl
  all_times (p ∷ ps) t = ap₂ (λ (q : FocusPoint) (qs : List FocusPoint). q ∷ qs) (scaled_times k g p pos w h t.0) (all_times ps t.1)

-- no side of the present frame is zero
pub on_present : (calls : List Call) (f : Focus) (row : List Change) → after calls ≡ holds f row → 0 < (present_frame f row).width × 0 < (present_frame f row).height
on_present calls f row e =
    let i = (primary_is_listed calls f row e).in_listing in
    let o = fits_on_frame (present_frame f row) _ (listed_fits_frame calls f row e (primary_index f row) i) in
    (o.wide, o.high)

pub fits_times : FitsTimes
unfolding journal_step journal_fit answer_in_box
fits_times calls f row e k pos w h b =
    let g = present_frame f row in
    let o = on_present calls f row e in
    let z = no_zero_side (times k g) (mul-pos pos o.0) (mul-pos pos o.1) in
    answered calls (holds f row) (fit (times k g) b) e
    ∙ rw (two_sides_stay g (times k g) z, z, times_shape k g)
    (ap (λ (ps : List FocusPoint). written f row (times k g) ps b)
    (all_times k g pos w h (listing f row) (listed_fits f.frame row f.points (right calls f row e).sound.fit)))

-- once
once : (s : Size) → times 1 s ≡ s
once s = ap₂ by (one-mul s.width) (one-mul s.height)

all_once : (ps : List FocusPoint) → map (times_point 1) ps ≡ ps
all_once [] = refl
all_once (p ∷ ps) = rw (one-mul p.center.x, one-mul p.center.y, one-mul p.size.width, one-mul p.size.height, all_once ps)

pub fits_the_frame : FitsTheFrame
unfolding journal_step journal_list
fits_the_frame calls f row e w h b =
    let g = present_frame f row in
    let t = fits_times calls f row e 1 (omega arith) (rw one-mul w) (rw one-mul h) b in
    rw (once g, all_once (listing f row)) at t ∙ sym (answered calls (holds f row) (list b) e)
