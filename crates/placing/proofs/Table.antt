-- The table's rule, by one computed test over all its rows, and the rule at each row. The idea: the test of a list is the test of its
-- first row and of the rest. Assumes nothing.
use Prim.Native.Nat.{ℕ, zero, suc, ◌+◌, ◌<◌, ◌≤◌}
use mathlib.Core.Bool.{true, ◌&&◌}
use mathlib.Core.List.{List, [], ◌∷◌}
use mathlib.Core.Path.{◌≡◌, refl, ap, ◌∙◌}
use native.Mathlib.Nat.{add-zero}
use native.Mathlib.Omega.{arith}
use lib.Dec.{eqb}
use lib.ListN.{length, get_or}
use borrow.Author.Tests.{eqb-true}
use Rattle.laws.proofs.Tests.{both}
use Rattle.placing.specs.Fit.{axis_fits, has_zero_side, center_lies_on, area_fits, no_area, lies_on, point_fits, same_size, by}
use Rattle.placing.specs.declared.points.FocusLayoutPoint.{FocusLayoutPoint}
use Rattle.placing.specs.Points.{points}
use Rattle.placing.specs.Named.{whole, dx, medium, fits_window}
use Rattle.placing.specs.Table.{row_holds, rows_hold, TableHolds}

pub table_holds : TableHolds
unfolding rows_hold row_holds same_size fits_window point_fits lies_on center_lies_on area_fits no_area has_zero_side axis_fits
table_holds = refl

-- what stands past the table's end
abbrev pub no_layout_point : FocusLayoutPoint
no_layout_point =
    record { number = 0; center = record { x = 0; y = 0 }; size = record { width = 0; height = 0 } }

-- the row at place i of a list whose first number is n
row_of : (n : ℕ) (ps : List FocusLayoutPoint) (i : ℕ) → rows_hold n ps ≡ true → i < length ps → row_holds (n + i) (get_or ps i no_layout_point) ≡ true
unfolding rows_hold
row_of n [] i e h = absurd (omega arith)
row_of n (p ∷ ps) zero e h = rw (add-zero n) (both (row_holds n p) (rows_hold (suc n) ps) e).0
row_of n (p ∷ ps) (suc i) e h =
    let s : suc n + i ≡ n + suc i = omega arith in
    rw s at (row_of (suc n) ps i (both (row_holds n p) (rows_hold (suc n) ps) e).1 (omega arith))

pub row_at : (i : ℕ) → i < 39 → row_holds (1 + i) (get_or points i no_layout_point) ≡ true
row_at i h = row_of 1 points i table_holds h

-- the number at place i is i + 1
pub number_is : (i : ℕ) → i < 39 → (get_or points i no_layout_point).number ≡ 1 + i
unfolding row_holds
number_is i h = eqb-true (get_or points i no_layout_point).number (1 + i) (both _ _ (row_at i h)).0

-- so it is one of 1 to 39: it has its own bit in a mask of the points
pub number_at_lem : (p : FocusLayoutPoint) (i : ℕ) → i < 39 → p ≡ get_or points i no_layout_point → (0 < p.number) × (p.number ≤ 39)
number_at_lem p i h e =
    let n : p.number ≡ 1 + i = ap (λ (q : FocusLayoutPoint). q.number) e ∙ number_is i h in
    (omega arith, omega arith)

-- the point at place i fits each of the windows
pub record FitsWindows (p : FocusLayoutPoint) : Type 0 where
  pub in_whole : fits_window whole p ≡ true
  pub in_dx : fits_window dx p ≡ true
  pub in_medium : fits_window medium p ≡ true

pub fits_at : (i : ℕ) → i < 39 → FitsWindows (get_or points i no_layout_point)
unfolding row_holds
fits_at i h =
    let p = get_or points i no_layout_point in
    let windows =
    (both (same_size p.size (by 164 164)) (fits_window whole p && (fits_window dx p && fits_window medium p))
    (both (eqb p.number (1 + i)) _ (row_at i h)).1).1 in
    let cuts = both (fits_window whole p) (fits_window dx p && fits_window medium p) windows in
    let two = both (fits_window dx p) (fits_window medium p) cuts.1 in
    record { in_whole = cuts.0; in_dx = two.0; in_medium = two.1 }
