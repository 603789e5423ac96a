-- A placed frame is one of the three windows, or refused by 6: what holds of these holds of every placed frame. The idea: a test picks
-- one of two. Assumes nothing.
use Rattle.std.specs.Prelude.{Option, Some, None}
use Rattle.reading.specs.declared.geometry.Size.{Size}
use Rattle.reading.specs.declared.nikon.CropHiSpeed.{CropHiSpeed}
use mathlib.Core.Bool.{◌&&◌}
use lib.Dec.{eqb}
use Rattle.reading.specs.Outcome.{Outcome, refused, accepted}
use Rattle.laws.proofs.Tests.{either}
use Rattle.placing.specs.declared.named.Window.{Window}
use Rattle.placing.specs.Fit.{by, same_size}
use Rattle.placing.specs.Named.{whole, dx, medium, same_place, given_as, none_or, on_crop, uncropped, placed_frame}

module _ (P : Outcome Window → Type 0) (on_whole : P (accepted whole)) (on_medium : P (accepted medium)) (on_dx : P (accepted dx))
    (on_six : P (refused 6)) where
  by_picture : (picture : Option Size) → P (accepted (uncropped picture))
  unfolding uncropped
  by_picture picture = either (λ (w : Window). P (accepted w)) (given_as picture (by 4512 3008)) medium whole on_medium on_whole

  pub by_frame : (crop : Option CropHiSpeed) (picture : Option Size) → P (placed_frame crop picture)
  unfolding placed_frame on_crop
  by_frame None picture = by_picture picture
  by_frame (Some crop) picture =
      either P (same_size crop.cropped crop.original) (accepted (uncropped picture)) (on_crop crop picture) (by_picture picture)
      (either P (eqb crop.mode 2 && (same_place crop.origin dx.origin && none_or picture dx.frame)) (accepted dx) (refused 6)
      on_dx on_six)
