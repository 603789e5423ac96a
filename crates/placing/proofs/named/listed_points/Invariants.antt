-- `listed_points`: the loop collects the points at the front of the places; the rows that are left decide the rest. Assumes
-- nothing.
use Rattle.std.specs.Prelude.{Option, Some, None}
use mathlib.Core.Path.{◌≡◌, refl}
use mathlib.Core.Bool.{Bool, true, false, cond}
use mathlib.Core.List.{List, [], ◌∷◌}
use Prim.Native.Nat.{ℕ, suc, ◌+◌, ◌≤◌, ◌<◌}
use native.Mathlib.Numerals.{add-one}
use native.Mathlib.Omega.{arith}
use lib.ListN.{get_or, drop, set, replicate}
use lib.Seq.{drop-cons}
use Rattle.laws.proofs.Collect.{Collected, stored, finished}
use Rattle.placing.specs.declared.focus.FocusPoint.{FocusPoint}
use Rattle.placing.specs.declared.points.FocusLayoutPoint.{FocusLayoutPoint}
use Rattle.placing.specs.declared.named.Window.{Window}
use Rattle.placing.specs.declared.load.PointPlaces.{PointPlaces}
use Rattle.placing.specs.Load.{no_point}
use Rattle.placing.specs.Laid.{places}
use Rattle.placing.specs.Points.{points as table}
use Rattle.placing.specs.Named.{less_origin, is_listed, listed_from, listed_points}
use Rattle.placing.specs.Inside.{point_places, candidate_of}
use Rattle.placing.proofs.Table.{no_layout_point}
use Rattle.placing.proofs.named.listed_points.Given as goal

-- the places after i rows
abbrev pub Going : Window → ℕ → ℕ → List FocusPoint → ℕ → ℕ → Type 0
Going w primary mask ps n i = Collected 39 no_point (listed_points w primary mask) ps n (listed_from w primary mask (drop i table))

-- a point's part in the list
abbrev pub joined : Option FocusPoint → List FocusPoint → List FocusPoint
joined (Some q) qs = q ∷ qs
joined None qs = qs

pub part : (b : Bool) (q : FocusPoint) (qs : List FocusPoint) → cond b (q ∷ qs) qs ≡ joined (candidate_of b q) qs
part true q qs = refl
part false q qs = refl

-- the row at place i of the table that the code holds
pub same_row : (rows : List FocusLayoutPoint) (i : ℕ) → rows ≡ table → get_or rows i no_layout_point ≡ get_or table i no_layout_point
same_row rows i e = rw e

pub start : (w : Window) (primary mask : ℕ) (ps : List FocusPoint) → ps ≡ replicate 39 no_point → Going w primary mask ps 0 0
start w primary mask ps e = rw e (record { same_size = refl; count_fits = omega arith; together = refl; blank_after = refl })

module _ (w : Window) (primary mask n i : ℕ) (ps : List FocusPoint) (h : i < 39) (p : FocusLayoutPoint) (ep : p ≡ get_or table i no_layout_point)
    (r : Option FocusPoint) (er : r ≡ candidate_of (is_listed w primary mask p) (less_origin w p)) (k : Going w primary mask ps n i) where
  pub step : listed_from w primary mask (drop i table) ≡ joined r (listed_from w primary mask (drop (i + 1) table))
  unfolding listed_from
  step =
      rw (er, add-one i, drop-cons table i no_layout_point h, ← ep)
      (part (is_listed w primary mask p) (less_origin w p) (listed_from w primary mask (drop (suc i) table)))

  pub is_listed_lem : (q : FocusPoint) → n < 39 → r ≡ Some q → Going w primary mask (set ps n q) (n + 1) (i + 1)
  is_listed_lem q g e =
      stored 39 no_point (listed_points w primary mask) ps n q (listed_from w primary mask (drop (i + 1) table)) g (rw (step, e) at k)

  pub is_left : r ≡ None → Going w primary mask ps n (i + 1)
  is_left e = rw (step, e) at k

-- past the last row nothing is left
pub no_rows : (w : Window) (primary mask : ℕ) → listed_from w primary mask (drop 39 table) ≡ []
unfolding listed_from
no_rows w primary mask = refl

pub end : (w : Window) (primary mask : ℕ) (ps : List FocusPoint) (n i : ℕ) → i ≡ 39 → Going w primary mask ps n i →
    ◌≡◌ {A = PointPlaces} (record { points = ps; count = n }) (point_places (listed_points w primary mask))
unfolding places
end w primary mask ps n i e k =
    let f = finished 39 no_point (listed_points w primary mask) ps n (rw (e, no_rows w primary mask) at k) in
    rw (f.1, ← f.0)

abbrev pub invariant-loop-point : goal.invariant-loop-point
invariant-loop-point l =
    (l.count ≤ l.point-index) × Going l.window l.names.primary l.names.mask l.points l.count l.point-index
