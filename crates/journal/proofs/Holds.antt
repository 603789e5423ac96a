-- What every journal that calls leave holds: a sound load, at most 64 edits, and the primary listed. By induction over the calls: a
-- cut that would drop the primary is refused, and a point that is listed was listed before. Then: a point that fits the load's
-- frame fits the present one wherever it is carried. Assumes nothing.
use Rattle.std.specs.Prelude.{Option, Some, None}
use Prim.Native.Nat.{ℕ, zero, suc, ◌-◌, ◌<◌, ◌≤◌}
use mathlib.Core.Bool.{Bool, true, false, cond}
use mathlib.Core.List.{List, [], ◌∷◌, ◌++◌}
use mathlib.Core.Path.{◌≡◌, refl, ap, ◌∙◌}
use lib.Dec.{leb}
use lib.ListN.{get_or, length, take, drop, take-append-drop, length-append}
use native.Mathlib.Omega.{arith}
use borrow.Author.Tests.{leb-false}
use Rattle.reading.specs.Outcome.{Outcome, refused, accepted}
use Rattle.reading.specs.declared.geometry.Size.{Size}
use Rattle.placing.specs.declared.focus.FocusPoint.{FocusPoint}
use Rattle.placing.specs.Fit.{point_fits}
use Rattle.laws.proofs.Tests.{both}
use Rattle.placing.proofs.Fitting.{fits_mirrored, fits_swapped}
use Rattle.placing.specs.Focus.{focus_of}
use Rattle.placing.specs.Load.{Focus, no_point}
use Rattle.placing.specs.Sound.{Sound, SoundFocus, AllFit}
use Rattle.placing.proofs.Sound.{focus_sound}
use Rattle.journal.specs.Journal.{Change, cut, orient, Step, turn, mirror, frame_at, point_at, frame_through, point_through, numbered_steps, Journal, empty, holds, frame_by, point_by, stays_listed, frame_after, moved_by, carried, still_listed, if_listed, listed, present_frame, primary_of, primary_after, ended, is_bad_cut, own_refusal, change_refusal, back_refusal, journal_load, journal_change, journal_back}
use Rattle.journal.specs.Calls.{Call, load, change, back, list, fit, journal_step, journal_after}
use Rattle.journal.specs.Claim.{after}
use Rattle.journal.proofs.Carry.{carried_append, carried_snoc, carried_none}

pub record Right (f : Focus) (standing : List Change) : Type 0 where
  pub sound : SoundFocus f
  pub primary : still_listed (primary_after f standing) ≡ true
  pub room : length standing ≤ 64

abbrev pub AllRight : Journal → Type 0
AllRight empty = Unit
AllRight (holds f standing) = Right f standing

-- ---- one call
-- a point that is listed after further edits was listed before them
listed_before : (f : Size) (o : Option FocusPoint) (row more : List Change)
    → still_listed (carried f o (row ++ more)) ≡ true → still_listed (carried f o row) ≡ true
listed_before f o row more e = by (carried f o row) (rw (carried_append f o row more) at e)
  where
    by : (q : Option FocusPoint) → still_listed (carried (frame_after f row) q more) ≡ true → still_listed q ≡ true
    by None y = rw (carried_none (frame_after f row) more) at y
    by (Some p) y = refl

-- an orientation leaves a listed point listed
orient_stays : (n : ℕ) (f : Size) (o : Option FocusPoint) → still_listed (moved_by (orient n) f o) ≡ still_listed o
orient_stays n f None = refl
orient_stays n f (Some p) = refl

primary_stays : (f : Focus) (row : List Change) (n : ℕ) → still_listed (primary_after f row) ≡ true
    → still_listed (primary_after f (row ++ orient n ∷ [])) ≡ true
primary_stays f row n h =
    rw (carried_snoc f.frame (Some (primary_of f)) row (orient n))
    (orient_stays n (frame_after f.frame row) (primary_after f row) ∙ h)

-- what an edit that is not refused tells
cut_told : (a b : Bool) → cond {A = Option ℕ} a (Some 9) (cond b None (Some 10)) ≡ None → b ≡ true
cut_told true b e = let z : ◌≡◌ {A = ℕ} 0 1 = cc in absurd (omega arith)
cut_told false true e = refl
cut_told false false e = let z : ◌≡◌ {A = ℕ} 0 1 = cc in absurd (omega arith)

full_told : (a : Bool) (o : Option ℕ) → cond a (Some 8) o ≡ None → (a ≡ false) × (o ≡ None)
full_told true o e = let z : ◌≡◌ {A = ℕ} 0 1 = cc in absurd (omega arith)
full_told false o e = (refl, e)

change_right : (f : Focus) (row : List Change) (c : Change) → Right f row → change_refusal f row c ≡ None → Right f (row ++ c ∷ [])
unfolding change_refusal
change_right f row c r e =
    let k = full_told (leb 64 (length row)) _ e in
    record {
      sound = r.sound;
      primary = by c k.1;
      room = rw length-append (omega (arith, leb-false 64 (length row) k.0));
    }
  where
    by : (c : Change) → own_refusal f row c ≡ None → still_listed (primary_after f (row ++ c ∷ [])) ≡ true
    by (cut l t w h) y =
        cut_told (is_bad_cut l t w h (present_frame f row)) (still_listed (primary_after f (row ++ cut l t w h ∷ []))) y
    by (orient n) y = primary_stays f row n r.primary

back_right : (f : Focus) (row : List Change) → Right f row → Right f (take (length row - 1) row)
back_right f row r = record {
  sound = r.sound;
  primary =
      listed_before f.frame (Some (primary_of f)) (take (length row - 1) row) (drop (length row - 1) row)
      (rw (take-append-drop (length row - 1) row) r.primary);
  room = omega (arith, r.room, simp length-append at (ap length (take-append-drop (length row - 1) row)));
}

ended_right : (o : Option ℕ) (j k : Journal) → AllRight j → (o ≡ None → AllRight k) → AllRight (ended o j k).1
ended_right None j k r s = s refl
ended_right (Some n) j k r s = r

load_right : (j : Journal) (o : Outcome Focus) → AllRight j → Sound o → AllRight (journal_load j o).1
unfolding journal_load carried
load_right j (refused n) r d = r
load_right j (accepted f) r d = record { sound = d; primary = refl; room = omega arith }

step_right : (j : Journal) (c : Call) → AllRight j → AllRight (journal_step j c).1
unfolding journal_step journal_change journal_back
step_right j (load block raw picture model) r =
    load_right j (focus_of block raw picture model) r (focus_sound block raw picture model)
step_right empty (change c) r = tt
step_right (holds f row) (change c) r = ended_right (change_refusal f row c) (holds f row) (holds f (row ++ c ∷ [])) r (change_right f row c r)
step_right empty back r = tt
step_right (holds f row) back r =
    ended_right (back_refusal row) (holds f row) (holds f (take (length row - 1) row)) r (λ e. back_right f row r)
step_right j (list b) r = r
step_right j (fit box b) r = r

right_from : (cs : List Call) (j : Journal) → AllRight j → AllRight (journal_after j cs)
unfolding journal_after
right_from [] j r = r
right_from (c ∷ cs) j r = right_from cs (journal_step j c).1 (step_right j c r)

-- after any list of calls
pub right : (calls : List Call) (f : Focus) (standing : List Change) → after calls ≡ holds f standing → Right f standing
right calls f standing e = rw e at (right_from calls empty tt)

-- ---- every listed point fits
abbrev pub FitsIf : Size → Option FocusPoint → Type 0
FitsIf f None = Unit
FitsIf f (Some p) = point_fits f p ≡ true

-- a turn exchanges the axes and then mirrors
step_fits : (s : Step) (f : Size) (p : FocusPoint) → point_fits f p ≡ true → point_fits (frame_at s f) (point_at s f p) ≡ true
unfolding point_fits
step_fits turn f p h = fits_mirrored _ _ _ (fits_swapped f p.center p.size h)
step_fits mirror f p h = fits_mirrored f p.center p.size h

through_fits : (ss : List Step) (f : Size) (p : FocusPoint) → point_fits f p ≡ true → point_fits (frame_through ss f) (point_through ss f p) ≡ true
unfolding frame_through point_through
through_fits [] f p h = h
through_fits (s ∷ ss) f p h = through_fits ss (frame_at s f) (point_at s f p) (step_fits s f p h)

moved_fits : (c : Change) (f : Size) (o : Option FocusPoint) → FitsIf f o → FitsIf (frame_by c f) (moved_by c f o)
unfolding point_fits
moved_fits c f None h = tt
moved_fits (cut l t w k) f (Some p) h = by (stays_listed (cut l t w k) f p) refl
  where
    by : (b : Bool) → stays_listed (cut l t w k) f p ≡ b → FitsIf (frame_by (cut l t w k) f) (cond b (Some (point_by (cut l t w k) f p)) None)
    by true e = (both (leb t p.center.y) _ (both (leb l p.center.x) _ e).1).1
    by false e = tt
moved_fits (orient n) f (Some p) h = through_fits (numbered_steps n) f p h

pub carried_fits : (f : Size) (o : Option FocusPoint) (row : List Change) → FitsIf f o → FitsIf (frame_after f row) (carried f o row)
unfolding frame_after carried
carried_fits f o [] h = h
carried_fits f o (c ∷ row) h = carried_fits (frame_by c f) (moved_by c f o) row (moved_fits c f o h)

pub listed_fits : (f : Size) (row : List Change) (ps : List FocusPoint) → AllFit f ps → AllFit (frame_after f row) (listed f row ps)
unfolding listed
listed_fits f row [] h = tt
listed_fits f row (p ∷ ps) h = by (carried f (Some p) row) (carried_fits f (Some p) row h.0) (listed_fits f row ps h.1)
  where
    by : (o : Option FocusPoint) → FitsIf (frame_after f row) o → AllFit (frame_after f row) (listed f row ps)
        → AllFit (frame_after f row) (if_listed o ++ listed f row ps)
    by None y rest = rest
    by (Some q) y rest = (y, rest)

pub fits_at : (f : Size) (ps : List FocusPoint) (i : ℕ) → AllFit f ps → i < length ps → point_fits f (get_or ps i no_point) ≡ true
fits_at f [] i h l = absurd (omega arith)
fits_at f (p ∷ ps) zero h l = h.0
fits_at f (p ∷ ps) (suc i) h l = fits_at f ps i h.1 (omega arith)
