-- A blank side, worked out: the laws of WorkedBoxLaws.antt, and its examples. The idea: on one axis the missing side is a quotient, which
-- times the frame's given side is near the product of the two others, and the test of shapes compares just these; the other axis is the
-- same with frame and box on their side. Assumes nothing.
use Prim.Native.Nat.{ℕ, ◌+◌, ◌*◌, ◌/◌, ◌≤◌, ◌<◌}
use mathlib.Core.Bool.{Bool, true, false, cond, false≢true}
use mathlib.Core.Logic.{◌↔◌, ◌⊎◌, inl, inr, ⊎_elim}
use mathlib.Core.Path.{◌≡◌, refl, sym, ap, ap₂, subst, ◌∙◌}
use lib.Dec.{eqb}
use native.Mathlib.Nat.{mul_comm, mul-zero, zero-mul, div-eq_of_lt, min-eq_left, min-eq_right, mul-le-mul, mul-le-mul_right, div-mul-le_self, lt-div-mul-add}
use native.Mathlib.Omega.{arith}
use borrow.Author.Tests.{eq-eqb, ne_eqb, eqb-true, eqb-false}
use Rattle.laws.proofs.Tests.{by_bool, by_order, or_first, or_second}
use Rattle.reading.specs.declared.geometry.Size.{Size}
use Rattle.placing.specs.Fit.{by, swapped, has_zero_side, same_size}
use Rattle.placing.specs.Scale.{scale_of}
use Rattle.placing.proofs.Fitting.{some_width, some_height, no_zero_side}
use Rattle.placing.proofs.Scaling.{no_side, quotient, half, scale_capped}
use Rattle.shape.specs.Shape.{same_shape}
use Rattle.shape.specs.WorkedBox.{worked_side, worked_box}
use Rattle.shape.specs.WorkedBoxLaws.{TwoSidesStay, BlankHeight, BlankWidth, BothBlank, WorkedTwice, WorkedSwapped, WorkedTimes, NotCapped, WorkedIsNearest, WorkedIsZero, ZeroUnderHalf, NotCappedHasShape, InReach, HasShapeInReach, InReachOf32, NotExtremeNotCapped, ZeroHasShape, BlankInNoFrame, rows_agree, BlankExamples}
use Rattle.shape.proofs.Shapes.{told_by_products, both_swapped}
use Rattle.shape.proofs.Times.{scale_times}

-- ---- scale, and its quotient before the cap
-- up to the cap scale is the quotient
scale_is : (that given side : ℕ) → NotCapped that given side → scale_of that given side ≡ quotient that given side
unfolding scale_of
scale_is that given side l = min-eq_left l

-- from the cap on it is the cap
scale_cap : (that given side : ℕ) → 4294967295 ≤ quotient that given side → scale_of that given side ≡ 4294967295
unfolding scale_of
scale_cap that given side l = min-eq_right l

-- ---- one side
blank_or_not : (side : ℕ) → (side ≡ 0) ⊎ (side ≡ 0 → ⊥)
blank_or_not side = ⊎_elim (λ t. inl (eqb-true side 0 t)) (λ t. inr (eqb-false side 0 t)) (by_bool (eqb side 0))

module _ (own other that given : ℕ) where
  pub blank_side : own ≡ 0 → worked_side own other that given ≡ scale_of that given other
  unfolding worked_side
  blank_side e = rw (eq-eqb own 0 e)

  pub given_side : (own ≡ 0 → ⊥) → worked_side own other that given ≡ own
  unfolding worked_side
  given_side n = rw (ne_eqb own 0 n)

  side_capped : own ≤ 4294967295 → worked_side own other that given ≤ 4294967295
  unfolding worked_side
  side_capped l = by (eqb own 0)
    where
      by : (b : Bool) → cond b (scale_of that given other) own ≤ 4294967295
      by true = scale_capped that given other
      by false = l

-- scale gives 0 of 0
scale_none : (that given : ℕ) → scale_of that given 0 ≡ 0
scale_none that given = ⊎_elim some (λ z. sym (no_side that given 0 (omega arith))) (by_order 0 given)
  where
    none : 0 < given → (that * 0 + given / 2) / given ≡ 0
    none pos = let z = mul-zero that in div-eq_of_lt (omega arith)

    some : 0 < given → scale_of that given 0 ≡ 0
    some pos = scale_is that given 0 (omega (arith, none pos)) ∙ none pos

side_twice : (a b x y : ℕ) → worked_side (worked_side a b x y) (worked_side b a y x) x y ≡ worked_side a b x y
side_twice a b x y =
    ⊎_elim again (λ n. given_side (worked_side a b x y) (worked_side b a y x) x y n) (blank_or_not (worked_side a b x y))
  where
    -- a worked side of 0 was blank
    was_blank : worked_side a b x y ≡ 0 → a ≡ 0
    was_blank z = ⊎_elim (λ e. e) (λ n. sym (given_side a b x y n) ∙ z) (blank_or_not a)

    other : a ≡ 0 → worked_side b a y x ≡ b
    other e =
        ⊎_elim
        (λ z. blank_side b a y x z ∙ ap (scale_of y x) e ∙ scale_none y x ∙ sym z)
        (λ n. given_side b a y x n)
        (blank_or_not b)

    again : worked_side a b x y ≡ 0 → worked_side (worked_side a b x y) (worked_side b a y x) x y ≡ worked_side a b x y
    again z =
        let e = was_blank z in
        blank_side (worked_side a b x y) (worked_side b a y x) x y z ∙ ap (scale_of x y) (other e) ∙ sym (blank_side a b x y e)

pub blank_examples : BlankExamples
unfolding rows_agree same_size has_zero_side same_shape worked_box worked_side scale_of
blank_examples = refl

pub worked_swapped : WorkedSwapped
unfolding worked_box
worked_swapped frame box = refl

pub worked_twice : WorkedTwice
unfolding worked_box
worked_twice frame box =
    ap₂ by
    (side_twice box.width box.height frame.width frame.height)
    (side_twice box.height box.width frame.height frame.width)

-- given sides of 32 bits make worked ones of 32 bits
pub worked_capped : (frame box : Size) → box.width ≤ 4294967295 → box.height ≤ 4294967295
    → ((worked_box frame box).width ≤ 4294967295) × ((worked_box frame box).height ≤ 4294967295)
unfolding worked_box
worked_capped frame box w h = (
  side_capped box.width box.height frame.width frame.height w,
  side_capped box.height box.width frame.height frame.width h,
)

pub two_sides_stay : TwoSidesStay
unfolding worked_box
two_sides_stay frame box e =
    ap₂ by
    (given_side box.width box.height frame.width frame.height (some_width box e))
    (given_side box.height box.width frame.height frame.width (some_height box e))

-- the side beside a blank one is as given, 0 too
beside_blank : (side that given : ℕ) → worked_side side 0 that given ≡ side
beside_blank side that given =
    ⊎_elim
    (λ z. blank_side side 0 that given z ∙ scale_none that given ∙ sym z)
    (λ n. given_side side 0 that given n)
    (blank_or_not side)

pub blank_height : BlankHeight
unfolding worked_box
blank_height frame width =
    ap₂ by (beside_blank width frame.width frame.height) (blank_side 0 width frame.height frame.width refl)

pub blank_width : BlankWidth
unfolding worked_box
blank_width frame height = ap swapped (blank_height (swapped frame) height)

pub both_blank : BothBlank
both_blank frame = blank_height frame 0 ∙ ap (by 0) (scale_none frame.height frame.width)

pub worked_times : WorkedTimes
worked_times k frame wide high w h = (
  blank_height frame (k * frame.width) ∙ ap (by (k * frame.width)) (scale_times k frame.height frame.width wide h),
  blank_width frame (k * frame.height)
      ∙ ap (λ (n : ℕ). by n (k * frame.height)) (scale_times k frame.width frame.height high w),
)

-- ---- how long the missing side is
pub worked_is_nearest : WorkedIsNearest
worked_is_nearest that given side pos l = rw (scale_is that given side l) (half that given side pos)

-- a worked side of 0 was not capped
zero_uncapped : (that given side : ℕ) → scale_of that given side ≡ 0 → quotient that given side ≡ 0
unfolding scale_of
zero_uncapped that given side e = omega arith

module _ (that given side : ℕ) (pos : 0 < given) where
  -- the product lies between two multiples of the given side
  low : quotient that given side * given ≤ that * side + given / 2
  low = div-mul-le_self (that * side + given / 2) given

  high : that * side + given / 2 < quotient that given side * given + given
  high = lt-div-mul-add pos

  less : scale_of that given side ≡ 0 → 2 * (that * side) < given
  less e =
      let z : quotient that given side * given ≡ 0 = ap (λ (m : ℕ). m * given) (zero_uncapped that given side e) ∙ zero-mul given in
      let h = high in
      omega arith

  none : 2 * (that * side) < given → scale_of that given side ≡ 0
  none l =
      let q : quotient that given side ≡ 0 = div-eq_of_lt (omega arith) in
      scale_is that given side (omega (arith, q)) ∙ q

  -- what is capped has a product of 4,294,967,296 times the given side, or half that side less
  past : 4294967295 < quotient that given side → 4294967296 * given ≤ that * side + given / 2
  past o =
      let l = low in
      let m : 4294967296 * given ≤ quotient that given side * given = mul-le-mul_right given (omega (arith, o)) in
      omega arith

  -- what is not capped is in reach
  reached : NotCapped that given side → InReach that given side
  reached l =
      let h = high in
      let m : quotient that given side * given ≤ 4294967295 * given = mul-le-mul_right given l in
      omega arith

pub worked_is_zero : WorkedIsZero
worked_is_zero that given side pos = (less that given side pos, none that given side pos)

-- ---- the worked box and the test of shapes, the height blank
module _ (f : Size) (w : ℕ) (pos : 0 < f.width) where
  uncapped_shape : NotCapped f.height f.width w → same_shape f (worked_box f (by w 0)) ≡ true
  uncapped_shape l =
      let q = quotient f.height f.width w in
      let lo = low f.height f.width w pos in
      let hi = high f.height f.width w pos in
      let c : f.width * q ≡ q * f.width = mul_comm f.width q in
      rw (blank_height f w, scale_is f.height f.width w l)
      ((told_by_products f (by w q)).1 (record { above = omega arith; below = omega arith }))

  module _ (o : 4294967295 < quotient f.height f.width w) where
    capped_box : worked_box f (by w 0) ≡ by w 4294967295
    capped_box = blank_height f w ∙ ap (by w) (scale_cap f.height f.width w (omega (arith, o)))

    capped_reached : same_shape f (by w 4294967295) ≡ true → InReach f.height f.width w
    capped_reached e = omega (arith, ((told_by_products f (by w 4294967295)).0 e).below)

    capped_shape : InReach f.height f.width w → same_shape f (by w 4294967295) ≡ true
    capped_shape r =
        let p = past f.height f.width w pos o in
        (told_by_products f (by w 4294967295)).1 (record { above = omega arith; below = omega arith })

  in_reach : (same_shape f (worked_box f (by w 0)) ≡ true) ↔ InReach f.height f.width w
  in_reach =
      ⊎_elim
      (λ o. (λ e. capped_reached o (rw (capped_box o) at e), λ r. rw (capped_box o) (capped_shape o r)))
      (λ l. (λ e. reached f.height f.width w pos l, λ r. uncapped_shape l))
      (by_order 4294967295 (quotient f.height f.width w))

-- on its side
shape_swapped : (f : Size) (h : ℕ) → same_shape (swapped f) (worked_box (swapped f) (by h 0)) ≡ same_shape f (worked_box f (by 0 h))
unfolding worked_box
shape_swapped f h = both_swapped f (worked_box f (by 0 h))

pub not_capped_has_shape : NotCappedHasShape
not_capped_has_shape f n wide high = (
  uncapped_shape f n wide,
  λ l. sym (shape_swapped f n) ∙ uncapped_shape (swapped f) n high l,
)

pub has_shape_in_reach : HasShapeInReach
has_shape_in_reach f n wide high = (
  in_reach f n wide,
  let i = in_reach (swapped f) n high in (λ e. i.0 (shape_swapped f n ∙ e), λ r. sym (shape_swapped f n) ∙ i.1 r),
)

pub in_reach_of_32 : InReachOf32
in_reach_of_32 that given side t g s = (λ r. omega arith, λ r. omega arith)

-- ---- when a side is not capped
quotient_small : (that given side : ℕ) → 0 < given → that * side ≤ 4294967295 * given → NotCapped that given side
quotient_small that given side pos l =
    ⊎_elim
    (λ o. let p = past that given side pos o in absurd (omega arith))
    (λ n. n)
    (by_order 4294967295 (quotient that given side))

pub not_extreme_not_capped : NotExtremeNotCapped
not_extreme_not_capped that given side pos n =
    quotient_small that given side pos (⊎_elim (λ b. mul-le-mul b.0 b.1) (λ p. omega arith) n)

-- ---- a worked side of 0
zero_told : (s : Size) → has_zero_side s ≡ true → (s.width ≡ 0) ⊎ (s.height ≡ 0)
unfolding has_zero_side
zero_told s e =
    ⊎_elim
    (λ t. inl (eqb-true s.width 0 t))
    (λ t. inr (eqb-true s.height 0 (rw t at e)))
    (by_bool (eqb s.width 0))

zero_is : (s : Size) → (s.width ≡ 0) ⊎ (s.height ≡ 0) → has_zero_side s ≡ true
unfolding has_zero_side
zero_is s (inl z) = or_first (eqb s.width 0) (eqb s.height 0) (eq-eqb s.width 0 z)
zero_is s (inr z) = or_second (eqb s.width 0) (eqb s.height 0) (eq-eqb s.height 0 z)

pub zero_under_half : ZeroUnderHalf
zero_under_half f n wide tall =
    let m = worked_is_zero f.height f.width n wide in
    let k = worked_is_zero f.width f.height n tall in
    let b = by n (scale_of f.height f.width n) in
    let c = by (scale_of f.width f.height n) n in (
      (
        λ e. m.0 (⊎_elim (none_of f.height f.width) (λ z. z) (zero_told b (rw (blank_height f n) at e))),
        λ u. rw (blank_height f n) (zero_is b (inr (m.1 u))),
      ),
      (
        λ e. k.0 (⊎_elim (λ z. z) (none_of f.width f.height) (zero_told c (rw (blank_width f n) at e))),
        λ u. rw (blank_width f n) (zero_is c (inl (k.1 u))),
      ),
    )
  where
    none_of : (that given : ℕ) → n ≡ 0 → scale_of that given n ≡ 0
    none_of that given z = ap (scale_of that given) z ∙ scale_none that given

-- with a zero side on either axis the missing one is not capped
missing_uncapped : (that given side : ℕ) → (side ≡ 0) ⊎ (scale_of that given side ≡ 0) → NotCapped that given side
missing_uncapped that given side (inl z) =
    omega (arith, zero_uncapped that given side (ap (scale_of that given) z ∙ scale_none that given))
missing_uncapped that given side (inr e) = omega (arith, zero_uncapped that given side e)

module _ (f : Size) (wide : 0 < f.width) (tall : 0 < f.height) where
  abbrev ZeroShape : Size → Type 0
  ZeroShape box = has_zero_side (worked_box f box) ≡ true → same_shape f (worked_box f box) ≡ true

  zero_height : (w : ℕ) → ZeroShape (by w 0)
  zero_height w e =
      let b = by w (scale_of f.height f.width w) in
      (not_capped_has_shape f w wide tall).0
      (missing_uncapped f.height f.width w (zero_told b (rw (blank_height f w) at e)))

  zero_width : (h : ℕ) → ZeroShape (by 0 h)
  zero_width h e =
      let b = by (scale_of f.width f.height h) h in
      (not_capped_has_shape f h wide tall).1
      (missing_uncapped f.width f.height h (⊎_elim inr inl (zero_told b (rw (blank_width f h) at e))))

pub zero_has_shape : ZeroHasShape
zero_has_shape f box wide tall e =
    ⊎_elim
    (λ z. subst (ZeroShape f wide tall) (ap (λ (n : ℕ). by n box.height) (sym z)) (zero_width f wide tall box.height) e)
    (λ n. ⊎_elim
    (λ z. subst (ZeroShape f wide tall) (ap (by box.width) (sym z)) (zero_height f wide tall box.width) e)
    (λ m. absurd (false≢true (sym (two_sides n m) ∙ e)))
    (blank_or_not box.height))
    (blank_or_not box.width)
  where
    two_sides : (box.width ≡ 0 → ⊥) → (box.height ≡ 0 → ⊥) → has_zero_side (worked_box f box) ≡ false
    two_sides n m = let k = no_zero_side box (omega (arith, n)) (omega (arith, m)) in ap has_zero_side (two_sides_stay f box k) ∙ k

-- ---- a frame with a zero side
scale_of_none : (given side : ℕ) → scale_of 0 given side ≡ 0
scale_of_none given side = ⊎_elim some (λ z. sym (no_side 0 given side (omega arith))) (by_order 0 given)
  where
    some : 0 < given → scale_of 0 given side ≡ 0
    some pos = (worked_is_zero 0 given side pos).1 (let z = zero-mul side in omega arith)

-- a zero side on either axis
scale_in_none : (that given side : ℕ) → (that ≡ 0) ⊎ (given ≡ 0) → scale_of that given side ≡ 0
scale_in_none that given side (inl z) = ap (λ (n : ℕ). scale_of n given side) z ∙ scale_of_none given side
scale_in_none that given side (inr z) = sym (no_side that given side z)

pub blank_in_no_frame : BlankInNoFrame
unfolding worked_box
blank_in_no_frame f box e n =
    ⊎_elim
    (λ z. zero_is (worked_box f box)
    (inl (blank_side box.width box.height f.width f.height z ∙ scale_in_none f.width f.height box.height (zero_told f e))))
    (λ z. zero_is (worked_box f box)
    (inr (blank_side box.height box.width f.height f.width z
    ∙ scale_in_none f.height f.width box.width (⊎_elim inr inl (zero_told f e)))))
    (zero_told box n)
