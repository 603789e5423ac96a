-- 2026-02, "Exif orientation in one call": the eight orientations and their numbers, by 01's turn and mirror of a point.
use Rattle.std.specs.Prelude.{ℕ, zero, suc, ◌-◌, ◌||◌, cond, List, [], ◌∷◌, ltb, get_or, ◌≡◌, Result, MatchResult}
use Rattle.reading.specs.Outcome.{Outcome, refused, accepted}
use Rattle.reading.specs.declared.geometry.Size.{Size}
use Rattle.reading.specs.declared.geometry.Point.{Point}
use Rattle.placing.specs.declared.focus.FocusPoint.{FocusPoint}
use Rattle.placing.specs.Fit.{swapped}
use Rattle.placing.specs.declared.focus.Framed.{Framed}
use Rattle.sheet.specs.declared.orientation.Orientation.{Orientation}
use Rattle.sheet.specs.declared.orientation.Orientation.TheVariants.{Normal, FlipHorizontal, Rotate180, FlipVertical, Transpose, Rotate90, Transverse, Rotate270}
use Rattle.sheet.specs.declared.orientation.UnknownOrientation.{UnknownOrientation}

-- ---- numbers
-- "Cameras write an orientation from 1 to 8": the eight in this order
abbrev pub eight : List Orientation
eight =
    Normal ∷ FlipHorizontal ∷ Rotate180 ∷ FlipVertical ∷ Transpose ∷ Rotate90 ∷ Transverse ∷ Rotate270 ∷ []

unfoldable pub orientation_number : Orientation → ℕ
orientation_number Normal = 1
orientation_number FlipHorizontal = 2
orientation_number Rotate180 = 3
orientation_number FlipVertical = 4
orientation_number Transpose = 5
orientation_number Rotate90 = 6
orientation_number Transverse = 7
orientation_number Rotate270 = 8

-- the orientation of a number: "15, number outside 1 to 8"
unfoldable pub orientation_of : ℕ → Outcome Orientation
orientation_of n = cond (ltb n 1 || ltb 8 n) (refused 15) (accepted (get_or eight (n - 1) Normal))

-- the code's result is the orientation of a number, or that number, which stands for none
abbrev pub StandsFor : ℕ → Result Orientation UnknownOrientation → Type 0
StandsFor n r =
    MatchResult r (λ o. orientation_of n ≡ accepted o) (λ e. (orientation_of n ≡ refused 15) × (e.0 ≡ n))

-- ---- 01's turn and mirror
abbrev pub point : ℕ → ℕ → Point
point x y = record { x = x; y = y }

-- a point with another center and another size: "number and in-focus unchanged"
abbrev pub moved_to : FocusPoint → Point → Size → FocusPoint
moved_to p c a = record { number = p.number; center = c; size = a; in_focus = p.in_focus }

-- "In a frame w by h, .. turned clockwise: (x, y) goes to (h − y, x), frame and areas swap sides."
abbrev pub turned_point : Size → FocusPoint → FocusPoint
turned_point f p = moved_to p (point (f.height - p.center.y) p.center.x) (swapped p.size)

-- "Mirror: (w − x, y)."
abbrev pub mirrored_point : Size → FocusPoint → FocusPoint
mirrored_point f p = moved_to p (point (f.width - p.center.x) p.center.y) p.size

-- of a point and its frame. Where a step would bring a coordinate below 0 it is 0, and the next step goes on from there
abbrev pub framed : Size → FocusPoint → Framed
framed f p = record { point = p; frame = f }

abbrev pub turned : Framed → Framed
turned q = framed (swapped q.frame) (turned_point q.frame q.point)

abbrev pub mirrored : Framed → Framed
mirrored q = framed q.frame (mirrored_point q.frame q.point)

-- ---- an orientation
-- what it is made of: some turns, or a mirror and then some turns
pub data Steps : Type 0 where
  turns : ℕ → Steps
  mirror_then : ℕ → Steps

-- "1 nothing, 2 mirror, 3 two turns, 4 mirror then two turns, 5 mirror then three turns, 6 one turn, 7 mirror then one turn,
-- 8 three turns"
unfoldable pub steps_of : Orientation → Steps
steps_of Normal = turns 0  -- 1
steps_of FlipHorizontal = mirror_then 0  -- 2
steps_of Rotate180 = turns 2  -- 3
steps_of FlipVertical = mirror_then 2  -- 4
steps_of Transpose = mirror_then 3  -- 5
steps_of Rotate90 = turns 1  -- 6
steps_of Transverse = mirror_then 1  -- 7
steps_of Rotate270 = turns 3  -- 8

-- one turn after the other
unfoldable pub turned_by : ℕ → Framed → Framed
turned_by zero q = q
turned_by (suc n) q = turned (turned_by n q)

-- step by step
abbrev pub taken : Steps → Framed → Framed
taken (turns n) q = turned_by n q
taken (mirror_then n) q = turned_by n (mirrored q)

-- a point and its frame under an orientation
unfoldable pub oriented_by : Orientation → Framed → Framed
oriented_by o q = taken (steps_of o) q
