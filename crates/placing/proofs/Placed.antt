-- When named points are placed: a primary from 1 to 39 just where the frame is, any other never. The idea: every window shows every
-- point of the table, so the primary is dropped from none. Assumes nothing.
use Rattle.std.specs.Prelude.{Option, Some, None}
use Rattle.reading.specs.declared.geometry.Size.{Size}
use Rattle.reading.specs.declared.nikon.CropHiSpeed.{CropHiSpeed}
use Prim.Native.Nat.{ℕ, zero, suc, ◌+◌, ◌-◌, ◌<◌, ◌≤◌}
use mathlib.Core.Path.{◌≡◌, refl, sym, ◌∙◌}
use mathlib.Core.Bool.{Bool, true, false, cond}
use mathlib.Core.List.{List, [], ◌∷◌}
use native.Mathlib.Omega.{arith}
use lib.Dec.{eqb}
use lib.ListN.{length, get_or}
use borrow.Author.Tests.{eq-eqb, ne_eqb}
use Rattle.reading.specs.Outcome.{Outcome, refused, accepted, number_of}
use Rattle.numbers.specs.Bytes.{same}
use Rattle.reading.specs.declared.focus.FocusAreaMode.{FocusAreaMode}
use Rattle.laws.proofs.Tests.{or_second, either}
use Rattle.placing.specs.declared.points.FocusLayoutPoint.{FocusLayoutPoint}
use Rattle.placing.specs.declared.named.Window.{Window}
use Rattle.placing.specs.Points.{table_of, points}
use Rattle.placing.specs.declared.points.PointTable.{PointTable}
use Rattle.placing.specs.declared.points.PointTable.TheVariants.{NikonD600}
use Rattle.placing.specs.Named.{less_origin, fits_window, is_named, is_listed, placed_frame, listed_from, has_number, placed_in, window_by, window_of, named_outcome}
use Rattle.placing.specs.Table.{PlacedByFrame, NoPrimary}
use Rattle.placing.proofs.Frames.{by_frame}
use Rattle.placing.proofs.Table.{no_layout_point, number_is, fits_at}

module _ (w : Window) (primary mask : ℕ) where
  -- a row that fits and has the primary's number is listed
  primary_listed : (p : FocusLayoutPoint) → p.number ≡ primary → fits_window w p ≡ true → is_listed w primary mask p ≡ true
  unfolding is_listed is_named
  primary_listed p e f = rw (eq-eqb p.number primary e, f)

  -- the list of rows has the primary where a row is it and fits
  has_at : (ps : List FocusLayoutPoint) (i : ℕ) → i < length ps → (get_or ps i no_layout_point).number ≡ primary →
      fits_window w (get_or ps i no_layout_point) ≡ true → has_number primary (listed_from w primary mask ps) ≡ true
  unfolding has_number listed_from
  has_at [] i h e f = absurd (omega arith)
  has_at (p ∷ ps) zero h e f = rw (primary_listed p e f, eq-eqb p.number primary e)
  has_at (p ∷ ps) (suc i) h e f = here (is_listed w primary mask p) (has_at ps i (omega arith) e f)
    where
      here : (b : Bool) → has_number primary (listed_from w primary mask ps) ≡ true →
          has_number primary (cond b (less_origin w p ∷ listed_from w primary mask ps) (listed_from w primary mask ps)) ≡ true
      here true rest = or_second (eqb p.number primary) (has_number primary (listed_from w primary mask ps)) rest
      here false rest = rest

  -- and does not have it where no row is it
  has_not : (ps : List FocusLayoutPoint) → ((i : ℕ) → i < length ps → (get_or ps i no_layout_point).number ≡ primary → ⊥) →
      has_number primary (listed_from w primary mask ps) ≡ false
  unfolding has_number listed_from
  has_not [] none = refl
  has_not (p ∷ ps) none =
      here (is_listed w primary mask p) (has_not ps (λ i. λ h. λ e. none (suc i) (omega arith) e))
      (ne_eqb p.number primary (λ e. none 0 (omega arith) e))
    where
      here : (b : Bool) → has_number primary (listed_from w primary mask ps) ≡ false → eqb p.number primary ≡ false →
          has_number primary (cond b (less_origin w p ∷ listed_from w primary mask ps) (listed_from w primary mask ps)) ≡ false
      here true rest first = rw (first, rest)
      here false rest first = rest

-- a window, if there is one, that shows every point of the table
abbrev ShowsAll : Outcome Window → Type 0
ShowsAll (refused n) = Unit
ShowsAll (accepted w) = (i : ℕ) → i < 39 → fits_window w (get_or points i no_layout_point) ≡ true

frame_shows_all : (crop : Option CropHiSpeed) (picture : Option Size) → ShowsAll (placed_frame crop picture)
frame_shows_all crop picture =
    by_frame ShowsAll (λ i. λ h. (fits_at i h).in_whole) (λ i. λ h. (fits_at i h).in_medium) (λ i. λ h. (fits_at i h).in_dx) tt crop picture

placed_in_frame : (o : Outcome Window) (primary mask : ℕ) (mode : FocusAreaMode) → 0 < primary → primary ≤ 39 → ShowsAll o →
    number_of (placed_in o primary mask mode) ≡ number_of o
unfolding placed_in
placed_in_frame (refused n) primary mask mode some few shows = refl
placed_in_frame (accepted w) primary mask mode some few shows =
    let h : primary - 1 < 39 = omega arith in
    let n : (get_or points (primary - 1) no_layout_point).number ≡ primary = number_is (primary - 1) h ∙ omega arith in
    rw (has_at w primary mask points (primary - 1) h n (shows (primary - 1) h))

pub placed_by_frame : PlacedByFrame
unfolding named_outcome window_of table_of same
placed_by_frame primary mask crop picture mode some few =
    placed_in_frame (placed_frame crop picture) primary mask mode some few (frame_shows_all crop picture)

-- a frame that is refused is refused by 6
abbrev SixIfRefused : Outcome Window → Type 0
SixIfRefused (refused n) = n ≡ 6
SixIfRefused (accepted w) = Unit

not_in_frame : (o : Outcome Window) (primary mask : ℕ) (mode : FocusAreaMode) → (0 < primary → primary ≤ 39 → ⊥) → SixIfRefused o →
    placed_in o primary mask mode ≡ refused 6
unfolding placed_in
not_in_frame (refused n) primary mask mode none six = rw six
not_in_frame (accepted w) primary mask mode none six =
    let other : (i : ℕ) → i < 39 → (get_or points i no_layout_point).number ≡ primary → ⊥ =
    λ i. λ h. λ e. let n : 1 + i ≡ primary = sym (number_is i h) ∙ e in none (omega arith) (omega arith) in
    rw (has_not w primary mask points other)

-- and so is a window
by_table : (t : Option PointTable) (code : ℕ) (crop : Option CropHiSpeed) (picture : Option Size) → SixIfRefused (window_by t code crop picture)
by_table None code crop picture = refl
by_table (Some NikonD600) code crop picture =
    either SixIfRefused (eqb code 3) (placed_frame crop picture) (refused 6) (by_frame SixIfRefused tt tt tt refl crop picture) refl

pub no_primary : NoPrimary
unfolding named_outcome window_of
no_primary code primary mask model crop picture mode none =
    not_in_frame (window_of code model crop picture) primary mask mode none (by_table (table_of model) code crop picture)
