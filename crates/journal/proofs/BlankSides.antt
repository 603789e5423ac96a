-- Fits with a blank side after any list of calls. The idea: 12 and 19 are told by the worked box, by the cases of the two tests; what the
-- tests say of a worked box, in numbers, are the laws of `shape`. Assumes nothing.
use Prim.Native.Nat.{ℕ, ◌*◌}
use mathlib.Core.Bool.{Bool, true, false, cond, false≢true}
use mathlib.Core.List.{List}
use mathlib.Core.Logic.{◌↔◌, ⊎_elim}
use mathlib.Core.Path.{◌≡◌, refl, sym, ap, ◌∙◌}
use lib.Dec.{ltb}
use lib.ListN.{length}
use native.Mathlib.Omega.{arith}
use Rattle.laws.proofs.Tests.{by_bool, either}
use Rattle.reading.specs.Outcome.{refused, number_of}
use Rattle.reading.specs.declared.geometry.Size.{Size}
use Rattle.placing.specs.Fit.{by, has_zero_side}
use Rattle.placing.specs.Load.{Focus}
use Rattle.placing.specs.declared.focus.FocusPoint.{FocusPoint}
use Rattle.shape.specs.Shape.{same_shape}
use Rattle.shape.specs.ShapeLaws.{times}
use Rattle.shape.specs.WorkedBoxLaws.{UnderHalf, InReach}
use Rattle.shape.proofs.Blank.{two_sides_stay, worked_twice, both_blank, blank_height, blank_width, worked_times, zero_under_half, not_capped_has_shape, has_shape_in_reach, not_extreme_not_capped, zero_has_shape}
use Rattle.sheet.specs.Sheet.{present_frame as sheetFrame}
use Rattle.sheet.specs.Lists.{outcome_in_box, buffer_in_box, fit_outcome, fit_buffer}
use Rattle.journal.specs.Journal.{Change, holds, present_frame, fit_box, fitted, Answer, no, written, answer_in_box, journal_fit}
use Rattle.journal.specs.Calls.{Call, fit, journal_step}
use Rattle.journal.specs.Claim.{after, answer}
use Rattle.journal.specs.BlankLaws.{TwoSidesOnAny, TwoSidesAsGiven, FitsAsWorked, BothBlankRefused, BlankTimes, BlankRefused, BlankHeightRefused, BlankWidthRefused, NotCappedKeepsShape, GridsKeepShape, InBounds, BlankHeightAnswered, BlankWidthAnswered}
use Rattle.journal.proofs.Answers.{answered}
use Rattle.journal.proofs.Boxes.{on_present}

pub two_sides_on_any : TwoSidesOnAny
unfolding fit_outcome fit_buffer
two_sides_on_any s box e =
    let w = two_sides_stay (sheetFrame s) box e in
    (λ m. ap (λ (b : Size). outcome_in_box s b m) w, λ buffer. ap (λ (b : Size). buffer_in_box s b buffer) w)

-- a fit, from what the journal holds
fit_is : (calls : List Call) (f : Focus) (row : List Change) → after calls ≡ holds f row → (box : Size) (b : List ℕ)
    → answer calls (fit box b) ≡ answer_in_box f row (fit_box f row box) b
unfolding journal_step journal_fit
fit_is calls f row e box b = answered calls (holds f row) (fit box b) e

pub two_sides_as_given : TwoSidesAsGiven
two_sides_as_given calls f row e box z b =
    fit_is calls f row e box b ∙ ap (λ (g : Size). answer_in_box f row g b) (two_sides_stay (present_frame f row) box z)

pub fits_as_worked : FitsAsWorked
fits_as_worked calls f row e box b =
    fit_is calls f row e box b
    ∙ ap (λ (g : Size). answer_in_box f row g b) (sym (worked_twice (present_frame f row) box))
    ∙ sym (fit_is calls f row e (fit_box f row box) b)

pub both_blank_refused : BothBlankRefused
unfolding answer_in_box has_zero_side
both_blank_refused calls f row e b = fit_is calls f row e (by 0 0) b ∙ rw (both_blank (present_frame f row))

pub blank_times : BlankTimes
blank_times calls f row e k w h b =
    let g = present_frame f row in
    let o = on_present calls f row e in
    let t = worked_times k g o.0 o.1 w h in
    (alike (by (k * g.width) 0) t.0, alike (by 0 (k * g.height)) t.1)
  where
    alike : (box : Size) → fit_box f row box ≡ times k (present_frame f row)
        → answer calls (fit box b) ≡ answer calls (fit (times k (present_frame f row)) b)
    alike box t = fits_as_worked calls f row e box b ∙ ap (λ (g : Size). answer calls (fit g b)) t

-- ---- 12 and 19, by the box that a fit works with
neither_number : (f : Focus) (row : List Change) (g : Size) (ps : List FocusPoint) (b : List ℕ)
    → (number_of (written f row g ps b).outcome ≡ 12 → ⊥) × (number_of (written f row g ps b).outcome ≡ 19 → ⊥)
unfolding written
neither_number f row g ps b =
    either (λ (a : Answer). (number_of a.outcome ≡ 12 → ⊥) × (number_of a.outcome ≡ 19 → ⊥))
    (ltb (length b) (6 * length ps)) _ _ (λ e. omega arith, λ e. omega arith) (λ e. omega arith, λ e. omega arith)

module _ (f : Focus) (row : List Change) (box : Size) (b : List ℕ) where
  -- the tests of a fit, and what it ends with
  abbrev Judged : Bool → Bool → ℕ
  Judged z t = number_of (cond z (no 12 b) (cond t (written f row box (fitted f row box) b) (no 19 b))).outcome

  twelve_told : (z t : Bool) → Judged z t ≡ 12 → z ≡ true
  twelve_told true t e = refl
  twelve_told false true e = absurd ((neither_number f row box (fitted f row box) b).0 e)
  twelve_told false false e = absurd (omega arith)

  nineteen_told : (z t : Bool) → Judged z t ≡ 19 → t ≡ false
  nineteen_told true t e = absurd (omega arith)
  nineteen_told false true e = absurd ((neither_number f row box (fitted f row box) b).1 e)
  nineteen_told false false e = refl

  is_twelve : ((answer_in_box f row box b).outcome ≡ refused 12) ↔ (has_zero_side box ≡ true)
  unfolding answer_in_box
  is_twelve = (λ e. twelve_told (has_zero_side box) (same_shape (present_frame f row) box) (ap number_of e), λ z. rw z)

  -- where a zero side has the frame's shape, so that 12 does not come first
  is_nineteen : (has_zero_side box ≡ true → same_shape (present_frame f row) box ≡ true)
      → ((answer_in_box f row box b).outcome ≡ refused 19) ↔ (same_shape (present_frame f row) box ≡ false)
  unfolding answer_in_box
  is_nineteen k = (
    λ e. nineteen_told (has_zero_side box) (same_shape (present_frame f row) box) (ap number_of e),
    λ t. ⊎_elim (λ z. absurd (false≢true (sym t ∙ k z))) (λ (z : has_zero_side box ≡ false). rw (z, t)) (by_bool (has_zero_side box)),
  )

-- a test that tells whether something holds tells whether it does not
not_so : {A : Type 0} (t : Bool) → (t ≡ true) ↔ A → (t ≡ false) ↔ (A → ⊥)
not_so true k = (λ e. absurd (false≢true (sym e)), λ n. absurd (n (k.0 refl)))
not_so false k = (λ e a. false≢true (k.1 a), λ n. refl)

-- a fit of a box whose worked one the tests judge by these sides
refused_by : (calls : List Call) (f : Focus) (row : List Change) → after calls ≡ holds f row → (box : Size) (b : List ℕ) (that given side : ℕ)
    → (has_zero_side (fit_box f row box) ≡ true) ↔ UnderHalf that given side
    → (same_shape (present_frame f row) (fit_box f row box) ≡ true) ↔ InReach that given side
    → BlankRefused that given side (answer calls (fit box b)).outcome
refused_by calls f row e box b that given side u r =
    let o = on_present calls f row e in
    let t = is_twelve f row (fit_box f row box) b in
    let n = is_nineteen f row (fit_box f row box) b (zero_has_shape (present_frame f row) box o.0 o.1) in
    let s = not_so (same_shape (present_frame f row) (fit_box f row box)) r in
    rw (fit_is calls f row e box b) (record {
      zero_side = (λ q. u.0 (t.0 q), λ l. t.1 (u.1 l));
      other_shape = (λ q. s.0 (n.0 q), λ l. n.1 (s.1 l));
    })

pub blank_height_refused : BlankHeightRefused
blank_height_refused calls f row e n b =
    let g = present_frame f row in
    let o = on_present calls f row e in
    refused_by calls f row e (by n 0) b g.height g.width n
    (zero_under_half g n o.0 o.1).0 (has_shape_in_reach g n o.0 o.1).0

pub blank_width_refused : BlankWidthRefused
blank_width_refused calls f row e n b =
    let g = present_frame f row in
    let o = on_present calls f row e in
    refused_by calls f row e (by 0 n) b g.width g.height n
    (zero_under_half g n o.0 o.1).1 (has_shape_in_reach g n o.0 o.1).1

pub not_capped_keeps_shape : NotCappedKeepsShape
not_capped_keeps_shape calls f row e n b =
    let g = present_frame f row in
    let o = on_present calls f row e in
    let s = not_capped_has_shape g n o.0 o.1 in
    let r = has_shape_in_reach g n o.0 o.1 in (
      λ c q. (blank_height_refused calls f row e n b).other_shape.0 q (r.0.0 (s.0 c)),
      λ c q. (blank_width_refused calls f row e n b).other_shape.0 q (r.1.0 (s.1 c)),
    )

pub grids_keep_shape : GridsKeepShape
grids_keep_shape calls f row e n b =
    let g = present_frame f row in
    let o = on_present calls f row e in
    let k = not_capped_keeps_shape calls f row e n b in (
      λ x. k.0 (not_extreme_not_capped g.height g.width n o.0 x),
      λ x. k.1 (not_extreme_not_capped g.width g.height n o.1 x),
    )

-- ---- a box that is neither
-- a fit whose worked box the tests accept by these sides
answered_by : (calls : List Call) (f : Focus) (row : List Change) → after calls ≡ holds f row → (asked box : Size) → fit_box f row asked ≡ box
    → (that given side : ℕ) → InBounds that given side → (has_zero_side box ≡ true) ↔ UnderHalf that given side
    → (same_shape (present_frame f row) box ≡ true) ↔ InReach that given side → (b : List ℕ)
    → answer calls (fit asked b) ≡ written f row box (fitted f row box) b
unfolding answer_in_box
answered_by calls f row e asked box w that given side i u r b =
    let z : has_zero_side box ≡ false = ⊎_elim (λ t. absurd (i.half (u.0 t))) (λ t. t) (by_bool (has_zero_side box)) in
    fit_is calls f row e asked b ∙ rw (w, z, r.1 i.reach)

pub blank_height_answered : BlankHeightAnswered
blank_height_answered calls f row e n m i k b =
    let g = present_frame f row in
    let o = on_present calls f row e in
    let w : fit_box f row (by n 0) ≡ by n m = blank_height g n ∙ ap (by n) (sym k) in
    let u = (zero_under_half g n o.0 o.1).0 in
    let r = (has_shape_in_reach g n o.0 o.1).0 in
    answered_by calls f row e (by n 0) (by n m) w g.height g.width n i (rw w at u) (rw w at r) b

pub blank_width_answered : BlankWidthAnswered
blank_width_answered calls f row e m n i k b =
    let g = present_frame f row in
    let o = on_present calls f row e in
    let w : fit_box f row (by 0 n) ≡ by m n = blank_width g n ∙ ap (λ (x : ℕ). by x n) (sym k) in
    let u = (zero_under_half g n o.0 o.1).1 in
    let r = (has_shape_in_reach g n o.0 o.1).1 in
    answered_by calls f row e (by 0 n) (by m n) w g.width g.height n i (rw w at u) (rw w at r) b
