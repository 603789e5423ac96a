-- 2026-02, what it wants shown: a list of orientations comes to one of the eight. And what it says beside: the numbers 1 to 8, and no
-- others, stand for the eight. proofs/Product.antt (a list), Oriented.antt (where each of the eight places one point) and
-- OrientationNumbers.antt have the proofs.
use Rattle.std.specs.Prelude.{ℕ, ◌+◌, ◌*◌, ◌%◌, ◌≤◌, ◌<◌, List, [], ◌∷◌, map, ◌⊎◌, ◌≡◌, get_or}
use Rattle.reading.specs.Outcome.{refused, accepted}
use Rattle.reading.specs.declared.focus.InFocus.TheVariants.{Yes}
use Rattle.placing.specs.Fit.{by}
use Rattle.placing.specs.declared.focus.Framed.{Framed}
use Rattle.sheet.specs.declared.orientation.Orientation.{Orientation}
use Rattle.sheet.specs.declared.orientation.Orientation.TheVariants.{Normal, FlipHorizontal, Rotate180, FlipVertical, Transpose, Rotate90, Transverse, Rotate270}
use Rattle.sheet.specs.Orientation.{eight, orientation_number, orientation_of, point, turned, mirrored, Steps, turns, mirror_then, steps_of, oriented_by}

-- ---- a list of orientations
-- one after the other, the first first
unfoldable pub oriented_by_each : List Orientation → Framed → Framed
oriented_by_each [] q = q
oriented_by_each (o ∷ os) q = oriented_by_each os (oriented_by o q)

-- a point on its frame: no coordinate is over its side
pub record OnItsFrame (q : Framed) : Type 0 where
  pub across : q.point.center.x ≤ q.frame.width
  pub down : q.point.center.y ≤ q.frame.height

-- "for every list of orientations a single one of the eight places every point on every frame as the list does": the same point, in
-- the same frame
abbrev pub OneOfEight : Type 0
OneOfEight =
    (os : List Orientation) → (o : Orientation) × ((q : Framed) → OnItsFrame q → oriented_by_each os q ≡ oriented_by o q)

-- and no other of the eight does: two that place every point alike are one
abbrev pub OnlyOne : Type 0
OnlyOne = (a b : Orientation) → ((q : Framed) → OnItsFrame q → oriented_by a q ≡ oriented_by b q) → a ≡ b

-- ---- which one
-- some steps, and then some more: a mirror after n turns is one before 3 n turns, and two mirrors are none
abbrev pub followed_by : Steps → Steps → Steps
followed_by (turns n) (turns m) = turns (n + m)
followed_by (mirror_then n) (turns m) = mirror_then (n + m)
followed_by (turns n) (mirror_then m) = mirror_then (3 * n + m)
followed_by (mirror_then n) (mirror_then m) = turns (3 * n + m)

-- the orientation that some steps come to: four turns are none
unfoldable pub comes_to : Steps → Orientation
comes_to (turns n) = get_or (Normal ∷ Rotate90 ∷ Rotate180 ∷ Rotate270 ∷ []) (n % 4) Normal
comes_to (mirror_then n) = get_or (FlipHorizontal ∷ Transverse ∷ FlipVertical ∷ Transpose ∷ []) (n % 4) FlipHorizontal

-- two orientations, the first first
unfoldable pub product : Orientation → Orientation → Orientation
product a b = comes_to (followed_by (steps_of a) (steps_of b))

-- of a list; of an empty one that of number 1
unfoldable pub product_of : List Orientation → Orientation
product_of [] = Normal
product_of (o ∷ os) = product o (product_of os)

-- that one it is
abbrev pub AsTheProduct : Type 0
AsTheProduct = (os : List Orientation) (q : Framed) → OnItsFrame q → oriented_by_each os q ≡ oriented_by (product_of os) q

-- what it rests on, of points on their frames: four turns are none, two mirrors are none, and a mirror after a turn is a mirror
-- before three turns
abbrev pub FourTurns : Type 0
FourTurns = (q : Framed) → OnItsFrame q → turned (turned (turned (turned q))) ≡ q

abbrev pub TwoMirrors : Type 0
TwoMirrors = (q : Framed) → OnItsFrame q → mirrored (mirrored q) ≡ q

abbrev pub MirrorAfterTurn : Type 0
MirrorAfterTurn = (q : Framed) → OnItsFrame q → mirrored (turned q) ≡ turned (turned (turned (mirrored q)))

-- ---- examples
-- the products of two in numbers: the first picks the row, the second the place in it
abbrev pub Products : Type 0
Products =
    map (λ (a : Orientation). map (λ (b : Orientation). orientation_number (product a b)) eight) eight ≡
    (1 ∷ 2 ∷ 3 ∷ 4 ∷ 5 ∷ 6 ∷ 7 ∷ 8 ∷ []) ∷
    (2 ∷ 1 ∷ 4 ∷ 3 ∷ 8 ∷ 7 ∷ 6 ∷ 5 ∷ []) ∷
    (3 ∷ 4 ∷ 1 ∷ 2 ∷ 7 ∷ 8 ∷ 5 ∷ 6 ∷ []) ∷
    (4 ∷ 3 ∷ 2 ∷ 1 ∷ 6 ∷ 5 ∷ 8 ∷ 7 ∷ []) ∷
    (5 ∷ 6 ∷ 7 ∷ 8 ∷ 1 ∷ 2 ∷ 3 ∷ 4 ∷ []) ∷
    (6 ∷ 5 ∷ 8 ∷ 7 ∷ 4 ∷ 3 ∷ 2 ∷ 1 ∷ []) ∷
    (7 ∷ 8 ∷ 5 ∷ 6 ∷ 3 ∷ 4 ∷ 1 ∷ 2 ∷ []) ∷
    (8 ∷ 7 ∷ 6 ∷ 5 ∷ 2 ∷ 1 ∷ 4 ∷ 3 ∷ []) ∷
    []

-- a point at (10, 5) with an area 8 by 6, in a frame 40 by 30
abbrev pub example : Framed
example =
    record {
      point = record { number = 7; center = point 10 5; size = by 8 6; in_focus = Yes };
      frame = by 40 30;
    }

-- its center, its area and its frame, each across and then down
abbrev pub six_of : Framed → List ℕ
six_of q =
    q.point.center.x ∷
    q.point.center.y ∷
    q.point.size.width ∷
    q.point.size.height ∷
    q.frame.width ∷
    q.frame.height ∷ []

-- under 1 to 8
abbrev pub UnderEach : Type 0
UnderEach =
    map (λ (o : Orientation). six_of (oriented_by o example)) eight ≡
    (10 ∷ 5 ∷ 8 ∷ 6 ∷ 40 ∷ 30 ∷ []) ∷
    (30 ∷ 5 ∷ 8 ∷ 6 ∷ 40 ∷ 30 ∷ []) ∷
    (30 ∷ 25 ∷ 8 ∷ 6 ∷ 40 ∷ 30 ∷ []) ∷
    (10 ∷ 25 ∷ 8 ∷ 6 ∷ 40 ∷ 30 ∷ []) ∷
    (5 ∷ 10 ∷ 6 ∷ 8 ∷ 30 ∷ 40 ∷ []) ∷
    (25 ∷ 10 ∷ 6 ∷ 8 ∷ 30 ∷ 40 ∷ []) ∷
    (25 ∷ 30 ∷ 6 ∷ 8 ∷ 30 ∷ 40 ∷ []) ∷
    (5 ∷ 30 ∷ 6 ∷ 8 ∷ 30 ∷ 40 ∷ []) ∷
    []

-- ---- numbers
-- the eight have the numbers 1 to 8
abbrev pub OneToEight : Type 0
OneToEight = map orientation_number eight ≡ 1 ∷ 2 ∷ 3 ∷ 4 ∷ 5 ∷ 6 ∷ 7 ∷ 8 ∷ []

-- an orientation's number stands for it, and no other number does
abbrev pub NumberStandsFor : Type 0
NumberStandsFor = (o : Orientation) → orientation_of (orientation_number o) ≡ accepted o

abbrev pub StandsForOne : Type 0
StandsForOne = (n : ℕ) (o : Orientation) → orientation_of n ≡ accepted o → orientation_number o ≡ n

-- "15, number outside 1 to 8"
abbrev pub OthersOutside : Type 0
OthersOutside = (n : ℕ) → (n < 1) ⊎ (8 < n) → orientation_of n ≡ refused 15
