-- 01, 'Named points': the table of the D600's 39 points, "number, centre and box", from nikon_d600.rs.
use Rattle.std.specs.Prelude.{ℕ, cond, List, [], ◌∷◌, Option, Some, None}
use Rattle.numbers.specs.Bytes.{same}
use Rattle.placing.specs.declared.points.FocusLayoutPoint.{FocusLayoutPoint}
use Rattle.placing.specs.declared.points.PointTable.{PointTable}
use Rattle.placing.specs.declared.points.PointTable.TheVariants.{NikonD600}

-- NIKON D600
abbrev pub d600 : List ℕ
d600 = 78 ∷ 73 ∷ 75 ∷ 79 ∷ 78 ∷ 32 ∷ 68 ∷ 54 ∷ 48 ∷ 48 ∷ []

-- "The model must match in full"
unfoldable pub table_of : List ℕ → Option PointTable
table_of model = cond (same model d600) (Some NikonD600) None

-- "boxes 164 square": a point by its number and its center
abbrev pub layout_point : ℕ → ℕ → ℕ → FocusLayoutPoint
layout_point n x y =
    record { number = n; center = record { x = x; y = y }; size = record { width = 164; height = 164 } }

-- "The table of 39 points is constant"; beside each its row, A at the top, and its column in the viewfinder
abbrev pub points : List FocusLayoutPoint
points =
    layout_point 1 3008 2007 ∷  -- C6
    layout_point 2 3008 1755 ∷  -- B6
    layout_point 3 3008 1503 ∷  -- A2
    layout_point 4 3008 2258 ∷  -- D6
    layout_point 5 3008 2510 ∷  -- E2
    layout_point 6 3247 2007 ∷  -- C7
    layout_point 7 3247 1755 ∷  -- B7
    layout_point 8 3247 1503 ∷  -- A3
    layout_point 9 3247 2258 ∷  -- D7
    layout_point 10 3247 2510 ∷  -- E3
    layout_point 11 2768 2007 ∷  -- C5
    layout_point 12 2768 1755 ∷  -- B5
    layout_point 13 2768 1503 ∷  -- A1
    layout_point 14 2768 2258 ∷  -- D5
    layout_point 15 2768 2510 ∷  -- E1
    layout_point 16 3486 2007 ∷  -- C8
    layout_point 17 3486 1705 ∷  -- B8
    layout_point 18 3486 2308 ∷  -- D8
    layout_point 19 3724 2007 ∷  -- C9
    layout_point 20 3724 1705 ∷  -- B9
    layout_point 21 3724 2308 ∷  -- D9
    layout_point 22 3963 2007 ∷  -- C10
    layout_point 23 3963 1705 ∷  -- B10
    layout_point 24 3963 2308 ∷  -- D10
    layout_point 25 4203 2007 ∷  -- C11
    layout_point 26 4203 1705 ∷  -- B11
    layout_point 27 4203 2308 ∷  -- D11
    layout_point 28 2529 2007 ∷  -- C4
    layout_point 29 2529 1705 ∷  -- B4
    layout_point 30 2529 2308 ∷  -- D4
    layout_point 31 2289 2007 ∷  -- C3
    layout_point 32 2289 1705 ∷  -- B3
    layout_point 33 2289 2308 ∷  -- D3
    layout_point 34 2050 2007 ∷  -- C2
    layout_point 35 2050 1705 ∷  -- B2
    layout_point 36 2050 2308 ∷  -- D2
    layout_point 37 1812 2007 ∷  -- C1
    layout_point 38 1812 1705 ∷  -- B1
    layout_point 39 1812 2308 ∷  -- D1
    []
