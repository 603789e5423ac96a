-- What fit gives in an accepted box: by the claim, and by the laws of scaling, since every listed point fits the present frame. Assumes
-- nothing.
use Prim.Native.Nat.{ℕ, zero, suc, ◌*◌, ◌≤◌, ◌<◌}
use mathlib.Core.List.{List, [], ◌∷◌, map}
use mathlib.Core.Path.{◌≡◌, refl, ap, ◌∙◌}
use mathlib.Core.Bool.{true}
use lib.ListN.{get_or, length, length-map}
use native.Mathlib.Omega.{arith}
use borrow.Author.Tests.{le-ltb}
use Rattle.reading.specs.declared.geometry.Size.{Size}
use Rattle.placing.specs.declared.focus.FocusPoint.{FocusPoint}
use Rattle.placing.specs.Fit.{point_fits}
use Rattle.placing.specs.Scale.{scaled_point}
use Rattle.placing.proofs.Fitting.{fits_on_frame}
use Rattle.placing.proofs.Scaled.{scaled_fits, scaled_near}
use Rattle.placing.specs.Load.{Focus, no_point}
use Rattle.shape.proofs.Shapes.{same_of}
use Rattle.shape.proofs.Blank.{worked_capped}
use Rattle.journal.specs.Journal.{Change, holds, present_frame, listing, fitted, written, answer_in_box, journal_fit}
use Rattle.journal.specs.Calls.{fit, journal_step}
use Rattle.journal.specs.Claim.{FitsExactly, FitIsNear}
use Rattle.journal.proofs.Answers.{answered}
use Rattle.journal.proofs.Holds.{right, listed_fits, fits_at}
use Rattle.journal.proofs.Shown.{listing_is_shown}

pub fitted_length : (f : Focus) (row : List Change) (box : Size) → length (fitted f row box) ≡ length (listing f row)
fitted_length f row box = length-map (listing f row) (λ p. scaled_point p (present_frame f row) box)

pub fits_exactly : FitsExactly
unfolding journal_step journal_fit answer_in_box written
fits_exactly calls f row e asked box w g b l =
    let k : 6 * length (fitted f row box) ≤ length b =
    omega (arith, fitted_length f row box, ap length (listing_is_shown f row).0) in
    answered calls (holds f row) (fit asked b) e
    ∙ rw (← w, g.no_zero_side, same_of (present_frame f row) box g.same_shape, le-ltb (length b) (6 * length (fitted f row box)) k)

-- the i-th of a list of points, scaled
map_at : (g : FocusPoint → FocusPoint) (ps : List FocusPoint) (i : ℕ) → i < length ps → get_or (map g ps) i no_point ≡ g (get_or ps i no_point)
map_at g [] i l = absurd (omega arith)
map_at g (p ∷ ps) zero l = refl
map_at g (p ∷ ps) (suc i) l = map_at g ps i (omega arith)

pub fit_is_near : FitIsNear
fit_is_near calls f row e asked box v t x y i l =
    let w : box.width ≤ 4294967295 = rw v (worked_capped (present_frame f row) asked x y).0 in
    let h : box.height ≤ 4294967295 = rw v (worked_capped (present_frame f row) asked x y).1 in
    let r = right calls f row e in
    let g = present_frame f row in
    let p = get_or (listing f row) i no_point in
    let k : point_fits g p ≡ true = fits_at g (listing f row) i (listed_fits f.frame row f.points r.sound.fit) l in
    let m : get_or (fitted f row box) i no_point ≡ scaled_point p g box =
    map_at (λ q. scaled_point q g box) (listing f row) i l in
    record {
      half_pixel = rw m (scaled_near p g box k w h);
      on_box = rw m (fits_on_frame box (scaled_point p g box) (scaled_fits p g box k t.no_zero_side));
    }
