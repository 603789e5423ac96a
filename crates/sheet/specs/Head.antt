-- 01, "After the sheet": what list and fit answer beside the points.
use Rattle.std.specs.Prelude.{ℕ, List, [], ◌∷◌}
use Rattle.reading.specs.declared.geometry.Size.{Size}
use Rattle.reading.specs.declared.focus.FocusAreaMode.{FocusAreaMode}
use Rattle.reading.specs.Focus.{mode_number}
use Rattle.placing.specs.declared.load.FocusOrigin.{FocusOrigin}
use Rattle.placing.specs.Load.{origin_number}

-- "The answer holds frame, count, primary's index from 0, mode .., origin", in 01's numbers
unfoldable pub head_of : Size → ℕ → ℕ → FocusAreaMode → FocusOrigin → List ℕ
head_of frame count index mode origin =
    frame.width ∷ frame.height ∷ count ∷ index ∷ mode_number mode ∷ origin_number origin ∷ []
