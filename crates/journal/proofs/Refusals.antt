-- A call is refused exactly when its refusals say: the journal's definitions by the cases of their tests, both ways. And what the
-- journal holds is the last accepted load, so that before one every other call is refused by 7. Assumes nothing.
use Rattle.std.specs.Prelude.{Option, Some, None}
use Prim.Native.Nat.{ℕ, suc, ◌+◌, ◌*◌, ◌<◌}
use mathlib.Core.Bool.{Bool, true, false, ◌||◌, cond, false≢true}
use mathlib.Core.List.{List, [], ◌∷◌, ◌++◌}
use mathlib.Core.Logic.{◌⊎◌, inl, inr}
use mathlib.Core.Path.{◌≡◌, refl, sym, ap, subst, ◌∙◌}
use lib.Dec.{leb, ltb, eqb}
use lib.ListN.{length, drop}
use native.Mathlib.Omega.{arith}
use borrow.Author.Tests.{lt-ltb, le-ltb, le-leb, lt-leb, eq-eqb, ne_eqb, ltb-true, ltb-false, leb-true, leb-false, eqb-true, eqb-false}
use Rattle.reading.specs.Outcome.{Outcome, refused, accepted}
use Rattle.reading.specs.declared.geometry.Size.{Size}
use Rattle.placing.specs.declared.focus.FocusPoint.{FocusPoint}
use Rattle.placing.specs.Fit.{has_zero_side}
use Rattle.laws.proofs.Tests.{neither, or_first, or_second}
use Rattle.placing.specs.Focus.{focus_of}
use Rattle.placing.specs.Load.{Focus}
use Rattle.shape.specs.Shape.{same_shape}
use Rattle.shape.proofs.Shapes.{same_told, same_of, other_told, other_of}
use Rattle.journal.specs.Journal.{Change, cut, orient, Journal, empty, holds, still_listed, present_frame, listing, primary_after, fit_box, fitted, Answer, no, ok, ended, is_bad_cut, is_outside, own_refusal, change_refusal, back_refusal, journal_load, journal_change, journal_back, head, numbers, written, journal_list, answer_in_box, journal_fit}
use Rattle.journal.specs.Calls.{Call, load, change, back, list, fit, lent, is_load, journal_step, journal_after}
use Rattle.journal.specs.Claim.{after, newest, last_from, held_load, HoldsLastLoad, EmptyBefore, BadCut, GoodCut, Refuses, not_loaded, is_empty, full, bad_cut, drops_primary, outside, nothing_stands, zero_box, shapes_differ, short, short_fit, RefusedExactly}
use Rattle.journal.proofs.Answers.{answers}
use Rattle.journal.proofs.Fitted.{fitted_length}

-- ---- the last accepted load
newest_load : (j : Journal) (o : Outcome Focus) → held_load (journal_load j o).1 ≡ newest (held_load j) o
unfolding journal_load
newest_load j (refused n) = refl
newest_load j (accepted f) = refl

ended_load : (o : Option ℕ) (f : Focus) (row more : List Change) → held_load (ended o (holds f row) (holds f more)).1 ≡ Some f
ended_load None f row more = refl
ended_load (Some n) f row more = refl

change_load : (j : Journal) (c : Change) → held_load (journal_change j c).1 ≡ held_load j
unfolding journal_change
change_load empty c = refl
change_load (holds f row) c = ended_load (change_refusal f row c) f row _

back_load : (j : Journal) → held_load (journal_back j).1 ≡ held_load j
unfolding journal_back
back_load empty = refl
back_load (holds f row) = ended_load (back_refusal row) f row _

pub load_from : (j : Journal) (cs : List Call) → held_load (journal_after j cs) ≡ last_from (held_load j) cs
unfolding journal_after last_from journal_step
load_from j [] = refl
load_from j (load block raw picture model ∷ cs) =
    load_from (journal_load j (focus_of block raw picture model)).1 cs
    ∙ ap (λ (o : Option Focus). last_from o cs) (newest_load j (focus_of block raw picture model))
load_from j (change c ∷ cs) =
    load_from (journal_change j c).1 cs ∙ ap (λ (o : Option Focus). last_from o cs) (change_load j c)
load_from j (back ∷ cs) = load_from (journal_back j).1 cs ∙ ap (λ (o : Option Focus). last_from o cs) (back_load j)
load_from j (list b ∷ cs) = load_from j cs
load_from j (fit box b ∷ cs) = load_from j cs

pub holds_last_load : HoldsLastLoad
holds_last_load calls = load_from empty calls

-- ---- before a load
pub no_load : (j : Journal) → held_load j ≡ None → j ≡ empty
no_load empty e = refl
no_load (holds f row) e = let z : ◌≡◌ {A = ℕ} 0 1 = cc in absurd (omega arith)

pub empty_seven : (c : Call) → is_load c ≡ false → (journal_step empty c).0 ≡ no 7 (lent c)
unfolding journal_step journal_change journal_back journal_list journal_fit
empty_seven (load block raw picture model) e = absurd (false≢true (sym e))
empty_seven (change c) e = refl
empty_seven back e = refl
empty_seven (list b) e = refl
empty_seven (fit box b) e = refl

pub empty_before : EmptyBefore
empty_before calls c e l =
    answers calls c ∙ rw (no_load (after calls) (holds_last_load calls ∙ e)) (empty_seven c l)

-- ---- a refusal tells that its number applies
same_number : {j : Journal} {c : Call} {m n : ℕ} → Refuses j c m → ◌≡◌ {A = Outcome (List ℕ)} (refused m) (refused n) → Refuses j c n
same_number {j} {c} {m} {n} r e = let q : m ≡ n = cc in subst (λ (k : ℕ). Refuses j c k) q r

some_number : {j : Journal} {c : Call} {m n : ℕ} → Refuses j c m → ◌≡◌ {A = Option ℕ} (Some m) (Some n) → Refuses j c n
some_number {j} {c} {m} {n} r e = let q : m ≡ n = cc in subst (λ (k : ℕ). Refuses j c k) q r

pub never : (given : List ℕ) (n : ℕ) → ◌≡◌ {A = Outcome (List ℕ)} (accepted given) (refused n) → ⊥
never given n e = let z : ◌≡◌ {A = ℕ} 0 1 = cc in omega arith

no_number : (n : ℕ) → ◌≡◌ {A = Option ℕ} None (Some n) → ⊥
no_number n e = let z : ◌≡◌ {A = ℕ} 0 1 = cc in omega arith

module _ (l t w h : ℕ) (f : Size) where
  bad_told : is_bad_cut l t w h f ≡ true → BadCut l t w h f
  unfolding is_bad_cut
  bad_told e = by (eqb w 0) (eqb h 0) (ltb f.width (l + w)) (ltb f.height (t + h)) refl refl refl refl e
    where
      by : (a b c d : Bool) → eqb w 0 ≡ a → eqb h 0 ≡ b → ltb f.width (l + w) ≡ c → ltb f.height (t + h) ≡ d
          → (a || (b || (c || d))) ≡ true → BadCut l t w h f
      by true b c d p q r s y = inl (eqb-true w 0 p)
      by false true c d p q r s y = inr (inl (eqb-true h 0 q))
      by false false true d p q r s y = inr (inr (inl (ltb-true f.width (l + w) r)))
      by false false false true p q r s y = inr (inr (inr (ltb-true f.height (t + h) s)))
      by false false false false p q r s y = absurd (false≢true y)

  bad_of : BadCut l t w h f → is_bad_cut l t w h f ≡ true
  unfolding is_bad_cut
  bad_of (inl p) = or_first (eqb w 0) _ (eq-eqb w 0 p)
  bad_of (inr (inl p)) = or_second (eqb w 0) _ (or_first (eqb h 0) _ (eq-eqb h 0 p))
  bad_of (inr (inr (inl p))) =
      or_second (eqb w 0) _ (or_second (eqb h 0) _ (or_first (ltb f.width (l + w)) _ (lt-ltb f.width (l + w) p)))
  bad_of (inr (inr (inr p))) =
      or_second (eqb w 0) _ (or_second (eqb h 0) _ (or_second (ltb f.width (l + w)) _ (lt-ltb f.height (t + h) p)))

  good_told : is_bad_cut l t w h f ≡ false → GoodCut l t w h f
  unfolding is_bad_cut
  good_told e =
      let a = neither (eqb w 0) _ e in
      let b = neither (eqb h 0) _ a.1 in
      let c = neither (ltb f.width (l + w)) _ b.1 in
      record {
        wide = positive w (eqb-false w 0 a.0);
        high = positive h (eqb-false h 0 b.0);
        across = ltb-false f.width (l + w) c.0;
        down = ltb-false f.height (t + h) c.1;
      }
    where
      positive : (n : ℕ) → (n ≡ 0 → ⊥) → 0 < n
      positive n k = omega arith

  pub good_of : GoodCut l t w h f → is_bad_cut l t w h f ≡ false
  unfolding is_bad_cut
  good_of g =
      rw (
        ne_eqb w 0 (λ e. omega (arith, g.wide)),
        ne_eqb h 0 (λ e. omega (arith, g.high)),
        le-ltb f.width (l + w) g.across,
        le-ltb f.height (t + h) g.down,
      )

outside_told : (n : ℕ) → is_outside n ≡ true → (n < 1) ⊎ (8 < n)
unfolding is_outside
outside_told n e = by (ltb n 1) (ltb 8 n) refl refl e
  where
    by : (a b : Bool) → ltb n 1 ≡ a → ltb 8 n ≡ b → (a || b) ≡ true → (n < 1) ⊎ (8 < n)
    by true b p q y = inl (ltb-true n 1 p)
    by false true p q y = inr (ltb-true 8 n q)
    by false false p q y = absurd (false≢true y)

outside_of : (n : ℕ) → (n < 1) ⊎ (8 < n) → is_outside n ≡ true
unfolding is_outside
outside_of n (inl a) = or_first (ltb n 1) (ltb 8 n) (lt-ltb n 1 a)
outside_of n (inr a) = or_second (ltb n 1) (ltb 8 n) (lt-ltb 8 n a)

not_listed : (o : Option FocusPoint) → still_listed o ≡ false → o ≡ None
not_listed None e = refl
not_listed (Some p) e = absurd (false≢true (sym e))

own_refuses : (f : Focus) (row : List Change) (c : Change) (n : ℕ) → length row < 64 → own_refusal f row c ≡ Some n
    → Refuses (holds f row) (change c) n
own_refuses f row (orient m) n r e = by (is_outside m) refl e
  where
    by : (b : Bool) → is_outside m ≡ b → cond b (Some 15) None ≡ Some n → Refuses (holds f row) (change (orient m)) n
    by true p y = some_number (outside r (outside_told m p)) y
    by false p y = absurd (no_number n y)
own_refuses f row (cut l t w h) n r e =
    by (is_bad_cut l t w h (present_frame f row)) (still_listed (primary_after f (row ++ cut l t w h ∷ []))) refl refl e
  where
    by : (a b : Bool) → is_bad_cut l t w h (present_frame f row) ≡ a → still_listed (primary_after f (row ++ cut l t w h ∷ [])) ≡ b
        → cond a (Some 9) (cond b None (Some 10)) ≡ Some n → Refuses (holds f row) (change (cut l t w h)) n
    by true b p q y = some_number (bad_cut r (bad_told l t w h (present_frame f row) p)) y
    by false true p q y = absurd (no_number n y)
    by false false p q y =
        some_number (drops_primary r (good_told l t w h (present_frame f row) p) (not_listed _ q)) y

change_refuses : (f : Focus) (row : List Change) (c : Change) (n : ℕ) → change_refusal f row c ≡ Some n → Refuses (holds f row) (change c) n
unfolding change_refusal
change_refuses f row c n e = by (leb 64 (length row)) refl e
  where
    by : (b : Bool) → leb 64 (length row) ≡ b → cond b (Some 8) (own_refusal f row c) ≡ Some n → Refuses (holds f row) (change c) n
    by true p y = some_number (full (leb-true 64 (length row) p)) y
    by false p y = own_refuses f row c n (leb-false 64 (length row) p) y

back_refuses : (f : Focus) (row : List Change) (n : ℕ) → back_refusal row ≡ Some n → Refuses (holds f row) back n
unfolding back_refusal
back_refuses f [] n e = some_number nothing_stands e
back_refuses f (c ∷ row) n e =
    absurd (no_number n (rw (ne_eqb (suc (length row)) 0 (λ z. omega arith)) at e))

ended_told : (o : Option ℕ) (j k : Journal) (c : Call) (n : ℕ) → ((m : ℕ) → o ≡ Some m → Refuses j c m)
    → (ended o j k).0.outcome ≡ refused n → Refuses j c n
ended_told None j k c n r e = absurd (never [] n e)
ended_told (Some m) j k c n r e = same_number (r m refl) e

load_told : (j : Journal) (block : List ℕ) (raw picture : Option Size) (model : List ℕ) (n : ℕ) (o : Outcome Focus)
    → focus_of block raw picture model ≡ o → (journal_load j o).0.outcome ≡ refused n → Refuses j (load block raw picture model) n
unfolding journal_load
load_told j block raw picture model n (refused m) q e = same_number (not_loaded q) e
load_told j block raw picture model n (accepted f) q e = absurd (never [] n e)

written_told : (f : Focus) (row : List Change) (g : Size) (ps : List FocusPoint) (b : List ℕ) (c : Call) (n : ℕ)
    → (length b < 6 * length ps → Refuses (holds f row) c 13)
    → (written f row g ps b).outcome ≡ refused n → Refuses (holds f row) c n
unfolding written
written_told f row g ps b c n r e = by (ltb (length b) (6 * length ps)) refl e
  where
    by : (t : Bool) → ltb (length b) (6 * length ps) ≡ t
        → (cond t (no 13 b) (ok (head f row g ps) (numbers ps ++ drop (6 * length ps) b))).outcome ≡ refused n → Refuses (holds f row) c n
    by true p y = same_number (r (ltb-true (length b) (6 * length ps) p)) y
    by false p y = absurd (never _ n y)

fit_told : (f : Focus) (row : List Change) (asked : Size) (b : List ℕ) (n : ℕ)
    → (journal_fit (holds f row) asked b).outcome ≡ refused n → Refuses (holds f row) (fit asked b) n
unfolding journal_fit answer_in_box
fit_told f row asked b n e = by (has_zero_side box) (same_shape g box) refl refl e
  where
    g : Size
    g = present_frame f row

    box : Size
    box = fit_box f row asked

    by : (z t : Bool) → has_zero_side box ≡ z → same_shape g box ≡ t
        → (cond z (no 12 b) (cond t (written f row box (fitted f row box) b) (no 19 b))).outcome ≡ refused n
        → Refuses (holds f row) (fit asked b) n
    by true t p q y = same_number (zero_box {f = f} {box = asked} p) y
    by false false p q y = same_number (shapes_differ {f = f} {box = asked} p (other_told g box q)) y
    by false true p q y =
        written_told f row box (fitted f row box) b (fit asked b) n
        (λ l. short_fit {f = f} {box = asked} (record { no_zero_side = p; same_shape = same_told g box q }) (omega (arith, fitted_length f row box))) y

pub told : (j : Journal) (c : Call) (n : ℕ) → (journal_step j c).0.outcome ≡ refused n → Refuses j c n
unfolding journal_step journal_change journal_back journal_list
told j (load block raw picture model) n e = load_told j block raw picture model n (focus_of block raw picture model) refl e
told empty (change c) n e = same_number (is_empty refl) e
told (holds f row) (change c) n e = ended_told (change_refusal f row c) _ _ (change c) n (change_refuses f row c) e
told empty back n e = same_number (is_empty refl) e
told (holds f row) back n e = ended_told (back_refusal row) _ _ back n (back_refuses f row) e
told empty (list b) n e = same_number (is_empty refl) e
told (holds f row) (list b) n e =
    written_told f row (present_frame f row) (listing f row) b (list b) n (λ l. short l) e
told empty (fit box b) n e = same_number (is_empty refl) (rw (empty_seven (fit box b) refl) at e)
told (holds f row) (fit box b) n e = fit_told f row box b n e

-- ---- and a number that applies is answered
pub says : {j : Journal} {c : Call} {n : ℕ} → Refuses j c n → (journal_step j c).0.outcome ≡ refused n
unfolding journal_step journal_load journal_change change_refusal journal_back back_refusal journal_list journal_fit answer_in_box written
says (not_loaded e) = rw e
says (is_empty {c = c} l) = ap (λ (a : Answer). a.outcome) (empty_seven c l)
says (full {standing = row} h) = rw (le-leb 64 (length row) h)
says (bad_cut {f = f} {standing = row} {left = l} {top = t} {width = w} {height = h} r d) =
    rw (lt-leb 64 (length row) r, bad_of l t w h (present_frame f row) d)
says (drops_primary {f = f} {standing = row} {left = l} {top = t} {width = w} {height = h} r g e) =
    rw (lt-leb 64 (length row) r, good_of l t w h (present_frame f row) g, e)
says (outside {standing = row} {n = n} r d) = rw (lt-leb 64 (length row) r, outside_of n d)
says nothing_stands = refl
says (zero_box z) = rw z
says (short {f = f} {standing = row} {buffer = b} l) = rw (lt-ltb (length b) (6 * length (listing f row)) l)
says (shapes_differ {f = f} {standing = row} {box = box} z d) = rw (z, other_of (present_frame f row) (fit_box f row box) d)
says (short_fit {f = f} {standing = row} {box = box} {buffer = b} g l) =
    rw (g.no_zero_side, same_of (present_frame f row) (fit_box f row box) g.same_shape, fitted_length f row (fit_box f row box), lt-ltb (length b) (6 * length (listing f row)) l)

pub refused_exactly : RefusedExactly
refused_exactly calls c n = (
  λ e. told (after calls) c n (rw (answers calls c) at e),
  λ r. rw (answers calls c) (says r),
)
