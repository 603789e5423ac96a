-- The laws of specs/Laws.antt but those of orientations. Two rows that leave the same frame, and carry every point that fits the load's
-- frame alike, list alike; so do two rows that go on alike from the present frame. Assumes nothing.
use Rattle.std.specs.Prelude.{Option, Some, None}
use Prim.Native.Nat.{ℕ, zero, suc, ◌<◌}
use mathlib.Core.Bool.{true, false≢true}
use mathlib.Core.List.{List, [], ◌∷◌, ◌++◌, append_assoc, append-nil}
use mathlib.Core.Path.{◌≡◌, refl, sym, ap, subst, ◌∙◌}
use lib.ListN.{length, take, length-append}
use native.Mathlib.Nat.{sub-zero}
use native.Mathlib.Omega.{arith}
use borrow.Author.Tests.{le-leb, lt-leb, ne_eqb}
use Rattle.reading.specs.Outcome.{Outcome, refused, accepted}
use Rattle.reading.specs.declared.geometry.Size.{Size}
use Rattle.placing.specs.declared.focus.FocusPoint.{FocusPoint}
use Rattle.placing.specs.Fit.{point_fits}
use Rattle.placing.proofs.Fitting.{fits_on_frame}
use Rattle.placing.specs.Load.{Focus}
use Rattle.placing.specs.Sound.{SoundFocus, AllFit}
use Rattle.journal.specs.Journal.{Change, cut, Journal, empty, holds, frame_after, moved_by, carried, still_listed, if_listed, listed, present_frame, listing, primary_index, primary_of, primary_after, Answer, ok, ended, change_refusal, back_refusal, journal_change, journal_back, written, journal_list, answer_in_box, journal_fit}
use Rattle.journal.specs.Calls.{Call, change, back, list, fit, journal_step, journal_after}
use Rattle.journal.specs.Claim.{after}
use Rattle.journal.specs.Laws.{ListAlike, whole_cut, WholeCut, BackUndoes, moved_all, EditMoves, StaysUnlisted}
use Rattle.journal.proofs.Carry.{frame_append, carried_append, carried_snoc, carried_none, but_last}
use Rattle.journal.proofs.Answers.{answers, answered, after_append}
use Rattle.journal.proofs.Holds.{Right, right, FitsIf, carried_fits, fits_at}
use Rattle.journal.proofs.Refusals.{good_of}

-- ---- an edit more, and further edits
pub stays_unlisted : StaysUnlisted
stays_unlisted f p row more e = carried_append f (Some p) row more ∙ rw e (carried_none (frame_after f row) more)

moved_append : (c : Change) (f : Size) (ps qs : List FocusPoint) → moved_all c f (ps ++ qs) ≡ moved_all c f ps ++ moved_all c f qs
unfolding moved_all
moved_append c f [] qs = refl
moved_append c f (p ∷ ps) qs =
    ap (λ (l : List FocusPoint). if_listed (moved_by c f (Some p)) ++ l) (moved_append c f ps qs)
    ∙ sym (append_assoc (if_listed (moved_by c f (Some p))) (moved_all c f ps) (moved_all c f qs))

moved_one : (c : Change) (f : Size) (o : Option FocusPoint) → if_listed (moved_by c f o) ≡ moved_all c f (if_listed o)
unfolding moved_all
moved_one c f None = refl
moved_one c f (Some p) = sym (append-nil (if_listed (moved_by c f (Some p))))

listed_moves : (f : Size) (row : List Change) (c : Change) (ps : List FocusPoint)
    → listed f (row ++ c ∷ []) ps ≡ moved_all c (frame_after f row) (listed f row ps)
unfolding listed moved_all
listed_moves f row c [] = refl
listed_moves f row c (p ∷ ps) =
    rw (carried_snoc f (Some p) row c, moved_one c (frame_after f row) (carried f (Some p) row), listed_moves f row c ps)
    (sym (moved_append c (frame_after f row) (if_listed (carried f (Some p) row)) (listed f row ps)))

pub edit_moves : EditMoves
edit_moves f row c = listed_moves f.frame row c f.points

-- ---- two rows that list alike
abbrev pub CarryAlike : Size → List Change → List Change → Type 0
CarryAlike f row other = (p : FocusPoint) → point_fits f p ≡ true → carried f (Some p) row ≡ carried f (Some p) other

listed_alike : (f : Size) (row other : List Change) (ps : List FocusPoint) → AllFit f ps → CarryAlike f row other → listed f row ps ≡ listed f other ps
unfolding listed
listed_alike f row other [] h k = refl
listed_alike f row other (p ∷ ps) h k = rw (k p h.0, listed_alike f row other ps h.1 k)

all_take : (f : Size) (n : ℕ) (ps : List FocusPoint) → AllFit f ps → AllFit f (take n ps)
all_take f zero ps h = tt
all_take f (suc n) [] h = tt
all_take f (suc n) (p ∷ ps) h = (h.0, all_take f n ps h.1)

module _ (f : Focus) (row other : List Change) (s : SoundFocus f)
    (e : present_frame f row ≡ present_frame f other) (k : CarryAlike f.frame row other) where
  points_alike : listing f row ≡ listing f other
  points_alike = listed_alike f.frame row other f.points s.fit k

  index_alike : primary_index f row ≡ primary_index f other
  index_alike =
      ap length (listed_alike f.frame row other (take f.primary f.points) (all_take f.frame f.primary f.points s.fit) k)

  lists_alike : (b : List ℕ) → journal_list (holds f row) b ≡ journal_list (holds f other) b
  unfolding journal_list written
  lists_alike b = rw (e, points_alike, index_alike)

  fits_alike : (box : Size) (b : List ℕ) → journal_fit (holds f row) box b ≡ journal_fit (holds f other) box b
  unfolding journal_fit answer_in_box written
  fits_alike box b = rw (e, points_alike, index_alike)

-- after two lists of calls whose journals hold such rows
pub alike : (calls others : List Call) (f : Focus) (row other : List Change) → after calls ≡ holds f row → after others ≡ holds f other
    → SoundFocus f → present_frame f row ≡ present_frame f other → CarryAlike f.frame row other → ListAlike calls others
unfolding journal_step
alike calls others f row other p q s e k = record {
  lists = λ b. answered calls (holds f row) (list b) p ∙ lists_alike f row other s e k b ∙ sym (answered others (holds f other) (list b) q);
  fits = λ box b. answered calls (holds f row) (fit box b) p ∙ fits_alike f row other s e k box b ∙ sym (answered others (holds f other) (fit box b) q);
}

-- ---- further edits that carry every point of the present frame alike
pub carry_alike : (f : Focus) (row more other : List Change) → CarryAlike (present_frame f row) more other
    → CarryAlike f.frame (row ++ more) (row ++ other)
carry_alike f row more other r p h =
    carried_append f.frame (Some p) row more
    ∙ by (carried f.frame (Some p) row) (carried_fits f.frame (Some p) row h)
    ∙ sym (carried_append f.frame (Some p) row other)
  where
    by : (o : Option FocusPoint) → FitsIf (present_frame f row) o → carried (present_frame f row) o more ≡ carried (present_frame f row) o other
    by None y = carried_none (present_frame f row) more ∙ sym (carried_none (present_frame f row) other)
    by (Some q) y = r q y

-- and that bring every one back
restored : (f : Focus) (row more : List Change) → CarryAlike (present_frame f row) more [] → CarryAlike f.frame (row ++ more) row
restored f row more r = subst (CarryAlike f.frame (row ++ more)) (append-nil row) (carry_alike f row more [] r)

-- ---- a cut of the whole frame
whole_cut_restores : (g : Size) → CarryAlike g (cut 0 0 g.width g.height ∷ []) []
unfolding carried
whole_cut_restores g p h =
    rw (sub-zero p.center.x, sub-zero p.center.y, le-leb 0 p.center.x (omega arith), le-leb 0 p.center.y (omega arith), h)

-- an edit that is not refused
pub taken : (f : Focus) (row : List Change) (c : Change) → change_refusal f row c ≡ None
    → journal_step (holds f row) (change c) ≡ (ok [] [], holds f (row ++ c ∷ []))
unfolding journal_step journal_change
taken f row c e = rw e

-- the present frame has no zero side: the primary, where it is now, fits it
frame_sides : (f : Focus) (row : List Change) → Right f row → (0 < (present_frame f row).width) × (0 < (present_frame f row).height)
frame_sides f row r =
    by (primary_after f row) (carried_fits f.frame (Some (primary_of f)) row (fits_at f.frame f.points f.primary r.sound.fit r.sound.primary_in)) r.primary
  where
    by : (o : Option FocusPoint) → FitsIf (present_frame f row) o → still_listed o ≡ true
        → (0 < (present_frame f row).width) × (0 < (present_frame f row).height)
    by None y e = absurd (false≢true e)
    by (Some q) y e = let o = fits_on_frame (present_frame f row) q y in (o.wide, o.high)

whole_taken : (f : Focus) (row : List Change) → Right f row → length row < 64
    → change_refusal f row (cut 0 0 (present_frame f row).width (present_frame f row).height) ≡ None
unfolding change_refusal
whole_taken f row r l =
    let g = present_frame f row in
    let s = frame_sides f row r in
    let c = cut 0 0 g.width g.height in
    let p : point_fits f.frame (primary_of f) ≡ true =
    fits_at f.frame f.points f.primary r.sound.fit r.sound.primary_in in
    rw (
      lt-leb 64 (length row) l,
      good_of 0 0 g.width g.height g (record { wide = s.0; high = s.1; across = omega arith; down = omega arith }),
      restored f row (c ∷ []) (whole_cut_restores g) (primary_of f) p,
      r.primary,
    )

pub whole_cut_lem : WholeCut
unfolding journal_after frame_after
whole_cut_lem calls f row e l =
    let g = present_frame f row in
    let c = cut 0 0 g.width g.height in
    let r = right calls f row e in
    let k = taken f row c (whole_taken f row r l) in
    let n : after (calls ++ whole_cut g ∷ []) ≡ holds f (row ++ c ∷ []) =
    after_append empty calls (whole_cut g ∷ []) ∙ rw e (ap (λ (r : Answer × Journal). r.1) k) in (
      answered calls (holds f row) (whole_cut g) e ∙ ap (λ (r : Answer × Journal). r.0) k,
      alike (calls ++ whole_cut g ∷ []) calls f (row ++ c ∷ []) row n e r.sound
          (frame_append f.frame row (c ∷ []))
          (restored f row (c ∷ []) (whole_cut_restores g)),
    )

-- ---- back
accepted_none : (o : Option ℕ) (j k : Journal) → (ended o j k).0 ≡ ok [] [] → o ≡ None
accepted_none None j k e = refl
accepted_none (Some n) j k e =
    let q : ◌≡◌ {A = Outcome (List ℕ)} (refused n) (accepted []) = ap (λ (a : Answer). a.outcome) e in
    let z : ◌≡◌ {A = ℕ} 0 1 = cc in
    absurd (omega arith)

back_off : (f : Focus) (row : List Change) (c : Change) → (journal_step (holds f (row ++ c ∷ [])) back).1 ≡ holds f row
unfolding journal_step journal_back back_refusal
back_off f row c =
    let k : (length (row ++ c ∷ []) ≡ 0 → ⊥) = λ z. omega (arith, length-append row (c ∷ [])) in
    rw (ne_eqb (length (row ++ c ∷ [])) 0 k) (ap (holds f) (but_last row c))

undone : (j : Journal) (c : Change) → (journal_step j (change c)).0 ≡ ok [] [] → journal_after j (change c ∷ back ∷ []) ≡ j
unfolding journal_after journal_step journal_change journal_back
undone empty c e = refl
undone (holds f row) c e =
    let k = accepted_none (change_refusal f row c) (holds f row) (holds f (row ++ c ∷ [])) e in
    ap (λ (r : Answer × Journal). (journal_step r.1 back).1) (taken f row c k) ∙ back_off f row c

pub back_undoes : BackUndoes
back_undoes calls c e d =
    let a : after (calls ++ change c ∷ back ∷ []) ≡ after calls =
    after_append empty calls (change c ∷ back ∷ []) ∙ undone (after calls) c (sym (answers calls (change c)) ∙ e) in
    answered (calls ++ change c ∷ back ∷ []) (after calls) d a ∙ sym (answers calls d)
