-- What every accepted load promises to the layers above, whatever it was made from.
use Rattle.std.specs.Prelude.{◌≤◌, ◌<◌, true, List, [], ◌∷◌, ◌≡◌, length}
use Rattle.reading.specs.Outcome.{Outcome, refused, accepted}
use Rattle.reading.specs.declared.geometry.Size.{Size}
use Rattle.placing.specs.declared.focus.FocusPoint.{FocusPoint}
use Rattle.placing.specs.Fit.{point_fits}
use Rattle.placing.specs.Load.{Focus}

-- every point of a list fits a frame
abbrev pub AllFit : Size → List FocusPoint → Type 0
AllFit frame [] = Unit
AllFit frame (p ∷ ps) = (point_fits frame p ≡ true) × AllFit frame ps

-- one point at least and no more than the 39 places hold, the primary among them, and each on the frame
pub record SoundFocus (f : Focus) : Type 0 where
  pub count_some : 0 < length f.points
  pub room : length f.points ≤ 39
  pub primary_in : f.primary < length f.points
  pub fit : AllFit f.frame f.points

-- a refused load promises nothing
abbrev pub Sound : Outcome Focus → Type 0
Sound (refused n) = Unit
Sound (accepted f) = SoundFocus f
