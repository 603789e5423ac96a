-- What holds of the table of points, as one test over its rows, and which primaries are placed because of it.
use Rattle.std.specs.Prelude.{Option, ℕ, suc, ◌<◌, ◌≤◌, Bool, true, ◌&&◌, List, [], ◌∷◌, ◌≡◌, eqb}
use Rattle.reading.specs.declared.geometry.Size.{Size}
use Rattle.reading.specs.declared.nikon.CropHiSpeed.{CropHiSpeed}
use Rattle.reading.specs.Outcome.{refused, number_of}
use Rattle.reading.specs.declared.focus.FocusAreaMode.{FocusAreaMode}
use Rattle.placing.specs.declared.points.FocusLayoutPoint.{FocusLayoutPoint}
use Rattle.placing.specs.Points.{d600, points}
use Rattle.placing.specs.Fit.{same_size, by}
use Rattle.placing.specs.Named.{whole, dx, medium, names_of, placed_frame, fits_window, named_outcome}

-- the row of number n: "boxes 164 square"; the point fits the whole frame and both windows
unfoldable pub row_holds : ℕ → FocusLayoutPoint → Bool
row_holds n p =
    eqb p.number n && (same_size p.size (by 164 164) && (fits_window whole p && (fits_window dx p && fits_window medium p)))

-- rows from number n on, up to 39
unfoldable pub rows_hold : ℕ → List FocusLayoutPoint → Bool
rows_hold n [] = eqb n 40
rows_hold n (p ∷ ps) = row_holds n p && rows_hold (suc n) ps

-- the table has the numbers 1 to 39 in order, and its rows hold; proofs/Table.antt has the proof
abbrev pub TableHolds : Type 0
TableHolds = rows_hold 1 points ≡ true

-- a primary that the table has is placed wherever the frame is: the refusal, if there is one, is the frame's. proofs/Placed.antt has
-- the proof of this and of the next
abbrev pub PlacedByFrame : Type 0
PlacedByFrame =
    (primary mask : ℕ) (crop : Option CropHiSpeed) (picture : Option Size) (mode : FocusAreaMode) → 0 < primary → primary ≤ 39
    → number_of (named_outcome (names_of 3 primary mask) d600 crop picture mode) ≡ number_of (placed_frame crop picture)

-- "Primary 0: 6"; and so is a number past the table, whatever the mask marks
abbrev pub NoPrimary : Type 0
NoPrimary =
    (code primary mask : ℕ) (model : List ℕ) (crop : Option CropHiSpeed) (picture : Option Size) (mode : FocusAreaMode)
    → (0 < primary → primary ≤ 39 → ⊥) → named_outcome (names_of code primary mask) model crop picture mode ≡ refused 6
