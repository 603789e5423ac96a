-- 01, 'Edges': the starred examples as one table. A further example is a row, a further kind a constructor with its line in `agrees`.
use Rattle.std.specs.Prelude.{Option, Some, None, ℕ, ◌-◌, ◌^◌, Bool, true, false, ◌&&◌, List, [], ◌∷◌, ◌++◌, ◌≡◌, replicate, eqb}
use Rattle.reading.specs.declared.nikon.CropHiSpeed.{CropHiSpeed}
use Rattle.std.specs.Bool.{beq}
use Rattle.reading.specs.Outcome.{Outcome, refused, accepted, number_of}
use Rattle.reading.specs.Focus.{in_focus_number}
use Rattle.reading.specs.Record.{record_of}
use Rattle.numbers.specs.declared.io.ByteOrder.TheVariants.{Big}
use Rattle.reading.specs.declared.geometry.Size.{Size}
use Rattle.reading.specs.declared.focus.InFocus.TheVariants.{Unrecorded as unrecorded}
use Rattle.reading.specs.declared.focus.FocusAreaMode.TheVariants.{Single}
use Rattle.placing.specs.declared.focus.FocusPoint.{FocusPoint}
use Rattle.placing.specs.Fit.{axis_fits, by}
use Rattle.placing.specs.Scale.{scale_of, scaled_point}
use Rattle.placing.specs.Load.{Focus}
use Rattle.placing.specs.Points.{d600}
use Rattle.placing.specs.Named.{names_of, named_outcome}

pub data Example : Type 0 where
  -- scale of a value, from an old side to a new one, is the last number
  scales : ℕ → ℕ → ℕ → ℕ → Example
  -- whether a side, at a center, fits a frame
  fitting : ℕ → ℕ → ℕ → Bool → Example
  -- a point, scaled from one frame to another, is the last point
  scaling : FocusPoint → Size → Size → FocusPoint → Example
  -- a number is the primary and marked, with a crop and a picture size: its point, the only one, is at x and y
  names : ℕ → Option CropHiSpeed → Option Size → ℕ → ℕ → Example
  -- a record of version 0100 and of so many bytes is refused by a number, or read, which is 0
  reads : ℕ → ℕ → Example

-- a frame or an area of one side both ways
abbrev square : ℕ → Size
square side = by side side

-- a point of a number at a place
abbrev point_at : ℕ → ℕ → ℕ → Size → FocusPoint
point_at n x y size = record { number = n; center = record { x = x; y = y }; size = size; in_focus = unrecorded }

-- the D600's DX crop: the mode, the size of the raw data before and after it, and the origin
abbrev dx_crop : Option CropHiSpeed
dx_crop =
    Some
    (record { mode = 2; original = by 6080 4028; cropped = by 3968 2636; origin = record { x = 1040; y = 696 } })

abbrev pub starred_rows : List Example
starred_rows =
    scales 1 2 1 1 ∷  -- "scale(1,2,1) = 1"
    scales 1 3 1 0 ∷  -- "scale(1,3,1) = 0"
    scales 2 3 1 1 ∷  -- "scale(2,3,1) = 1"
    fitting 3 2 4 true ∷  -- "Side 3 at centre 2 fits frame 4"
    fitting 3 2 3 false ∷  -- "not frame 3"
    scaling (point_at 0 20 20 (square 40)) (square 100) (square 1) (point_at 0 0 0 (square 0)) ∷  -- "Centre 20, frame 100 to 1: centre 0, area dropped"
    names 27 dx_crop None 3163 1612 ∷  -- "Point 27 in the DX window: (3163, 1612)"
    names 38 dx_crop None 772 1009 ∷  -- "Point 38: (772, 1009)"
    names 1 None (Some (by 4512 3008)) 3005 2002 ∷  -- "Point 1 in 4512 by 3008: (3005, 2002)"
    reads 29 4 ∷  -- "Version 0100 of 29 bytes: 4"
    reads 30 0 ∷  -- "30 is read"
    []

-- the six numbers of two points are the same
unfoldable pub same_point : FocusPoint → FocusPoint → Bool
same_point p q =
    eqb p.number q.number &&
    (eqb p.center.x q.center.x && eqb p.center.y q.center.y &&
    (eqb p.size.width q.size.width && eqb p.size.height q.size.height &&
    eqb (in_focus_number p.in_focus) (in_focus_number q.in_focus)))

-- whether an outcome is one point alone, and that point the primary
unfoldable pub is_only : Outcome Focus → FocusPoint → Bool
is_only (refused n) q = false
is_only (accepted f) q = only f.points && eqb f.primary 0
  where
    only : List FocusPoint → Bool
    only [] = false
    only (p ∷ []) = same_point p q
    only (p ∷ (r ∷ ps)) = false

-- 0100, and zeros up to a length
abbrev zero_record : ℕ → List ℕ
zero_record n = (48 ∷ 49 ∷ 48 ∷ 48 ∷ []) ++ replicate (n - 4) 0

-- whether the definitions give what a row says
unfoldable pub agrees : Example → Bool
agrees (scales v old new result) = eqb (scale_of v old new) result
agrees (fitting side center frame result) = beq (axis_fits side center frame) result
agrees (scaling p old new result) = same_point (scaled_point p old new) result
agrees (names n crop picture x y) =
    is_only (named_outcome (names_of 3 n (2 ^ (n - 1))) d600 crop picture Single) (point_at n x y (square 164))
agrees (reads n number) = eqb (number_of (record_of Big (zero_record n))) number

unfoldable pub rows_agree : List Example → Bool
rows_agree [] = true
rows_agree (e ∷ es) = agrees e && rows_agree es

-- every starred example agrees with the written rules
abbrev pub Starred : Type 0
Starred = rows_agree starred_rows ≡ true
