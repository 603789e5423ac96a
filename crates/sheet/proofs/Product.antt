-- A list of orientations comes to one: their product. The idea: of a point on its frame four turns are none, two mirrors are none, and
-- a mirror after a turn is a mirror before three turns; so some steps followed by others are again steps, and steps are an
-- orientation's by their turns modulo 4. A list then goes by induction, since an orientation leaves a point on its frame. Assumes
-- nothing.
use Prim.Native.Nat.{ℕ, zero, suc, ◌+◌, ◌*◌, ◌-◌, ◌/◌, ◌%◌, ◌≤◌, ◌<◌}
use mathlib.Core.List.{[], ◌∷◌}
use mathlib.Core.Path.{◌≡◌, refl, sym, ap, ◌∙◌}
use lib.ListN.{get_or}
use native.Mathlib.Omega.{arith}
use Rattle.placing.specs.declared.focus.Framed.{Framed}
use Rattle.sheet.specs.declared.orientation.Orientation.{Orientation}
use Rattle.sheet.specs.declared.orientation.Orientation.TheVariants.{Normal, FlipHorizontal, Rotate180, FlipVertical, Transpose, Rotate90, Transverse, Rotate270}
use Rattle.sheet.specs.Orientation.{turned, mirrored, turned_by, Steps, turns, mirror_then, steps_of, taken, oriented_by}
use Rattle.sheet.specs.OrientationLaws.{oriented_by_each, OnItsFrame, OneOfEight, followed_by, comes_to, product, product_of, AsTheProduct, FourTurns, TwoMirrors, MirrorAfterTurn}

-- ---- points on their frames
turned_on : (q : Framed) → OnItsFrame q → OnItsFrame (turned q)
turned_on q k = record { across = omega arith; down = k.across }

mirrored_on : (q : Framed) → OnItsFrame q → OnItsFrame (mirrored q)
mirrored_on q k = record { across = omega arith; down = k.down }

turned_by_on : (n : ℕ) (q : Framed) → OnItsFrame q → OnItsFrame (turned_by n q)
unfolding turned_by
turned_by_on zero q k = k
turned_by_on (suc n) q k = turned_on (turned_by n q) (turned_by_on n q k)

pub oriented_on : (o : Orientation) (q : Framed) → OnItsFrame q → OnItsFrame (oriented_by o q)
unfolding oriented_by
oriented_on o q k = by (steps_of o)
  where
    by : (s : Steps) → OnItsFrame (taken s q)
    by (turns n) = turned_by_on n q k
    by (mirror_then n) = turned_by_on n (mirrored q) (mirrored_on q k)

-- ---- the three laws
-- from the other end and back
twice : (side at : ℕ) → at ≤ side → side - (side - at) ≡ at
twice side at h = omega arith

pub four_turns : FourTurns
four_turns q k = rw (twice q.frame.width q.point.center.x k.across, twice q.frame.height q.point.center.y k.down)

pub two_mirrors : TwoMirrors
two_mirrors q k = rw (twice q.frame.width q.point.center.x k.across)

pub mirror_after_turn : MirrorAfterTurn
mirror_after_turn q k = rw (twice q.frame.width q.point.center.x k.across)

-- ---- steps
more_turns : (m n : ℕ) (q : Framed) → turned_by m (turned_by n q) ≡ turned_by (n + m) q
unfolding turned_by
more_turns zero n q = let e : n + 0 ≡ n = omega arith in rw e
more_turns (suc m) n q = let e : n + suc m ≡ suc (n + m) = omega arith in rw e (ap turned (more_turns m n q))

mirror_after_turns : (n : ℕ) (q : Framed) → OnItsFrame q → mirrored (turned_by n q) ≡ turned_by (3 * n) (mirrored q)
unfolding turned_by
mirror_after_turns zero q k = refl
mirror_after_turns (suc n) q k =
    let e : 3 * suc n ≡ suc (suc (suc (3 * n))) = omega arith in
    mirror_after_turn (turned_by n q) (turned_by_on n q k)
    ∙ ap (λ (p : Framed). turned (turned (turned p))) (mirror_after_turns n q k)
    ∙ rw e

followed : (s t : Steps) (q : Framed) → OnItsFrame q → taken t (taken s q) ≡ taken (followed_by s t) q
followed (turns n) (turns m) q k = more_turns m n q
followed (mirror_then n) (turns m) q k = more_turns m n (mirrored q)
followed (turns n) (mirror_then m) q k =
    ap (turned_by m) (mirror_after_turns n q k) ∙ more_turns m (3 * n) (mirrored q)
followed (mirror_then n) (mirror_then m) q k =
    ap (turned_by m) (mirror_after_turns n (mirrored q) (mirrored_on q k) ∙ ap (turned_by (3 * n)) (two_mirrors q k))
    ∙ more_turns m (3 * n) q

-- ---- the orientation of some steps
by_fours : (k : ℕ) (q : Framed) → OnItsFrame q → turned_by (4 * k) q ≡ q
unfolding turned_by
by_fours zero q h = refl
by_fours (suc k) q h =
    let e : 4 * suc k ≡ suc (suc (suc (suc (4 * k)))) = omega arith in
    rw (e, by_fours k q h) (four_turns q h)

modulo_four : (n : ℕ) (q : Framed) → OnItsFrame q → turned_by n q ≡ turned_by (n % 4) q
modulo_four n q h =
    let e : 4 * (n / 4) + n % 4 ≡ n = omega arith in
    ap (λ (m : ℕ). turned_by m q) (sym e)
    ∙ sym (more_turns (n % 4) (4 * (n / 4)) q)
    ∙ ap (turned_by (n % 4)) (by_fours (n / 4) q h)

few_turns : (r : ℕ) → r < 4 → (q : Framed) → oriented_by (get_or (Normal ∷ Rotate90 ∷ Rotate180 ∷ Rotate270 ∷ []) r Normal) q ≡ turned_by r q
unfolding turned_by steps_of oriented_by
few_turns zero h q = refl
few_turns (suc zero) h q = refl
few_turns (suc (suc zero)) h q = refl
few_turns (suc (suc (suc zero))) h q = refl
few_turns (suc (suc (suc (suc r)))) h q = absurd (omega arith)

few_mirrored : (r : ℕ) → r < 4 → (q : Framed)
    → oriented_by (get_or (FlipHorizontal ∷ Transverse ∷ FlipVertical ∷ Transpose ∷ []) r FlipHorizontal) q ≡ turned_by r (mirrored q)
unfolding turned_by steps_of oriented_by
few_mirrored zero h q = refl
few_mirrored (suc zero) h q = refl
few_mirrored (suc (suc zero)) h q = refl
few_mirrored (suc (suc (suc zero))) h q = refl
few_mirrored (suc (suc (suc (suc r)))) h q = absurd (omega arith)

comes_to_lem : (s : Steps) (q : Framed) → OnItsFrame q → taken s q ≡ oriented_by (comes_to s) q
unfolding comes_to
comes_to_lem (turns n) q k = modulo_four n q k ∙ sym (few_turns (n % 4) (omega arith) q)
comes_to_lem (mirror_then n) q k = modulo_four n (mirrored q) (mirrored_on q k) ∙ sym (few_mirrored (n % 4) (omega arith) q)

-- ---- two in a row, and a list
pub two_in_a_row : (a b : Orientation) (q : Framed) → OnItsFrame q → oriented_by b (oriented_by a q) ≡ oriented_by (product a b) q
unfolding oriented_by product
two_in_a_row a b q k =
    followed (steps_of a) (steps_of b) q k ∙ comes_to_lem (followed_by (steps_of a) (steps_of b)) q k

pub as_the_product : AsTheProduct
unfolding turned_by steps_of oriented_by oriented_by_each product_of
as_the_product [] q k = refl
as_the_product (o ∷ os) q k =
    as_the_product os (oriented_by o q) (oriented_on o q k) ∙ two_in_a_row o (product_of os) q k

pub one_of_eight : OneOfEight
one_of_eight os = (product_of os, as_the_product os)
