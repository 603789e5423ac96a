-- 01's definition of one load: the numbers 1 to 6 in order, or frame, points, primary, area mode and origin.
use Rattle.std.specs.Prelude.{Option, ℕ, ◌≤◌, ◌≡◌, Bool, cond, ◌&&◌, not, List}
use Rattle.reading.specs.declared.geometry.Size.{Size}
use Rattle.reading.specs.declared.nikon.CropHiSpeed.{CropHiSpeed}
use Rattle.reading.specs.Outcome.{Outcome, refused, and_then}
use Rattle.reading.specs.Note.{values_of}
use Rattle.reading.specs.declared.afinfo.FocusRecord.{FocusRecord}
use Rattle.reading.specs.declared.nikon.CropArea.{CropArea}
use Rattle.placing.specs.declared.focus.FocusPoint.{FocusPoint}
use Rattle.placing.specs.Fit.{has_zero_side}
use Rattle.placing.specs.Load.{Focus, alone}
use Rattle.placing.specs.Sound.{Sound}
use Rattle.placing.specs.Recorded.{position_of}
use Rattle.placing.specs.Named.{named_outcome}

-- a recorded point: number 0, its area, and the in-focus byte, which "goes with a recorded position"
abbrev pub point_of : FocusRecord → FocusPoint
point_of r = record { number = 0; center = r.center; size = r.area; in_focus = r.in_focus }

-- "Recorded position, if no side of frame or area is zero"
unfoldable pub records_position : FocusRecord → Bool
records_position r = not (has_zero_side r.frame) && not (has_zero_side r.area)

-- "recorded position cannot be placed": 5; "no recorded position and named points cannot be placed": 6
unfoldable pub placed_of : FocusRecord → Option CropHiSpeed → CropArea → Option Size → List ℕ → Outcome Focus
placed_of r crop area picture model =
    cond (records_position r)
    (and_then (position_of (point_of r) r.frame crop area picture) (λ q. alone q.frame q.point r.area_mode))
    (named_outcome r.named model crop picture r.area_mode)

-- one load: "given block, raw and picture sizes (each may be missing) and model". What reading tells of the note is judged by 1 to 4,
-- and where the points are by 5 and 6
unfoldable pub focus_of : List ℕ → Option Size → Option Size → List ℕ → Outcome Focus
focus_of s raw picture model = and_then (values_of s raw) (λ v. placed_of v.recorded v.crop v.area picture model)

-- every load is sound: what the layers above rely on; proofs/Sound.antt has the proof
abbrev pub LoadSound : Type 0
LoadSound = (s : List ℕ) (raw picture : Option Size) (model : List ℕ) → Sound (focus_of s raw picture model)

-- "Load can give 1 to 6"; proofs/Numbers.antt has the proof
abbrev pub LoadNumbers : Type 0
LoadNumbers =
    (block : List ℕ) (raw picture : Option Size) (model : List ℕ) (n : ℕ) →
    focus_of block raw picture model ≡ refused n → (1 ≤ n) × (n ≤ 6)
