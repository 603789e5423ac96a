-- Where each of the eight places the example's point, and the products of two: the definitions computed. The eight places differ, so
-- that the place tells the orientation, and no two orientations place every point alike. Assumes nothing.
use mathlib.Core.Bool.{cond}
use mathlib.Core.Path.{◌≡◌, refl, sym, ap, ◌∙◌}
use native.Mathlib.Omega.{arith}
use lib.Dec.{eqb}
use Rattle.reading.specs.declared.geometry.Point.{Point}
use Rattle.placing.specs.declared.focus.Framed.{Framed}
use Rattle.sheet.specs.declared.orientation.Orientation.{Orientation}
use Rattle.sheet.specs.declared.orientation.Orientation.TheVariants.{Normal, FlipHorizontal, Rotate180, FlipVertical, Transpose, Rotate90, Transverse, Rotate270}
use Rattle.sheet.specs.Orientation.{orientation_number, turned_by, steps_of, oriented_by}
use Rattle.sheet.specs.OrientationLaws.{OnlyOne, comes_to, product, Products, example, UnderEach}

pub under_each : UnderEach
unfolding turned_by steps_of oriented_by
under_each = refl

pub products : Products
unfolding orientation_number steps_of comes_to product
products = refl

-- the orientation that brings the example's center to a place
told_by : Point → Orientation
told_by c =
    cond (eqb c.x 10) (cond (eqb c.y 5) Normal FlipVertical)
    (cond (eqb c.x 30) (cond (eqb c.y 5) FlipHorizontal Rotate180)
    (cond (eqb c.x 5) (cond (eqb c.y 10) Transpose Rotate270)
    (cond (eqb c.y 10) Rotate90 Transverse)))

told : (o : Orientation) → told_by (oriented_by o example).point.center ≡ o
unfolding told_by turned_by steps_of oriented_by
told Normal = refl
told FlipHorizontal = refl
told Rotate180 = refl
told FlipVertical = refl
told Transpose = refl
told Rotate90 = refl
told Transverse = refl
told Rotate270 = refl

pub only_one : OnlyOne
only_one a b k =
    sym (told a)
    ∙ ap (λ (q : Framed). told_by q.point.center) (k example (record { across = omega arith; down = omega arith }))
    ∙ told b
