-- The claim. A sheet after calls stands for a journal (`journal_of`) and is `Good`: empty, or with its counts in range and its
-- places there. Every call, on a good sheet and on the journal that it stands for, ends alike and leaves a good sheet that stands
-- for the journal left (`Agree`). Two lemmas carry nearly all cases: `keeps`, of a refused call, and `adds`, of one edit more. Then
-- by induction over the list. Of a load it uses that it is sound, and refused by 1 to 6. Assumes nothing.
use Rattle.std.specs.Prelude.{Some, None}
use Rattle.std.specs.Option.{is_some}
use Prim.Native.Nat.{ℕ, zero, suc, ◌+◌, ◌-◌, ◌*◌, ◌<◌, ◌≤◌}
use mathlib.Core.Bool.{Bool, true, false, ◌&&◌, ◌||◌, not, cond}
use mathlib.Core.List.{List, [], ◌∷◌, ◌++◌}
use mathlib.Core.Path.{◌≡◌, refl, sym, ap, ap₂, ◌∙◌}
use lib.Dec.{leb, ltb, eqb}
use lib.ListN.{get_or, length, take, drop, set, length-map, length-set}
use lib.Seq.{take-take, get_or-take, get_or-set_same}
use native.Mathlib.Nat.{le_of_lt}
use native.Mathlib.Numerals.{add-one, sub-one}
use native.Mathlib.Omega.{arith}
use borrow.Author.Tests.{lt-ltb, le-leb, lt-leb, ltb-true, ltb-false, eqb-false, eqb-true}
use Rattle.reading.specs.Outcome.{Outcome, refused, accepted}
use Rattle.reading.specs.Geometry.{lies_in}
use Rattle.reading.specs.declared.geometry.Size.{Size}
use Rattle.placing.specs.declared.focus.FocusPoint.{FocusPoint}
use Rattle.placing.specs.Fit.{has_zero_side}
use Rattle.placing.specs.Scale.{scaled_point}
use Rattle.placing.specs.Focus.{focus_of}
use Rattle.placing.specs.Load.{Focus, no_point}
use Rattle.placing.specs.Laid.{laid_focus}
use Rattle.placing.specs.Sound.{Sound}
use Rattle.placing.proofs.Sound.{focus_sound}
use Rattle.shape.specs.Shape.{same_shape}
use Rattle.sheet.specs.declared.edits.Edit.{Edit}
use Rattle.sheet.specs.declared.edits.Edit.TheVariants.{Cut, Orient}
use Rattle.sheet.specs.declared.edits.Carried.{Carried}
use Rattle.sheet.specs.declared.Sheet.{Sheet}
use Rattle.sheet.specs.declared.orientation.Orientation.TheVariants.{Normal}
use Rattle.sheet.specs.Orientation.{eight, orientation_number, orientation_of}
use Rattle.sheet.specs.Place.{rectangle, blank_edit, moved, placed, is_good_cut}
use Rattle.sheet.specs.Sheet.{leaves, kept_by, fresh_sheet, loaded_sheet, load_sheet, usable, placed_at, present_frame as frame_of, with_row, without_last, no_edits, focus_in, load_on, add_edit, if_open, orient_to, orient_sheet, keeps_primary, cut_sheet, back_sheet}
use Rattle.sheet.specs.Head.{head_of}
use Rattle.sheet.specs.Listing.{flat}
use Rattle.sheet.specs.Lists.{listing as sheetListing, list_count, list_index, is_short, head_in, list_outcome, list_buffer, scaled_all, outcome_in_box, buffer_in_box, fit_outcome, fit_buffer}
use Rattle.sheet.proofs.Buffer.{flat_length}
use Rattle.placing.proofs.Places.{length_places, take_places}
use Rattle.sheet.proofs.OrientationNumbers.{stands_for_one}
use Rattle.journal.specs.Journal.{Change, cut, orient, Journal, empty, holds, frame_after, still_listed, listed, present_frame, listing, primary_index, primary_after, fit_box, fitted, Answer, no, ok, ended, head, is_bad_cut, is_outside, is_full, change_refusal, back_refusal, journal_load, journal_change, journal_back, numbers, written, journal_list, answer_in_box, journal_fit}
use Rattle.journal.specs.Calls.{Call, load, change, back, list, fit, journal_step, run_journal}
use Rattle.journal.specs.SheetCalls.{after_edit, after_list, changed, sheet_step, run_sheet}
use Rattle.journal.specs.Claim.{Claim}
use Rattle.journal.proofs.Carry.{but_last}
use Rattle.journal.proofs.Placed.{change_of, point_of, row_at, row_count, row_kept, placed_frame_lem, placed_more, placed_point, listed_to_is, flat_numbers}

-- ---- the journal that a sheet stands for
abbrev pub load_of : Sheet → Focus
load_of s =
    record {
      frame = (load_on s).frame;
      points = take (load_on s).count (load_on s).points;
      primary = (load_on s).primary;
      mode = (load_on s).area_mode;
      origin = (load_on s).origin;
    }

abbrev pub row_of : Sheet → List Change
row_of s = row_at s.row.edits s.row.count

abbrev pub journal_of : Sheet → Journal
journal_of s = cond (is_some s.load) (holds (load_of s) (row_of s)) empty

-- what holds of a sheet after calls
pub record Held (s : Sheet) : Type 0 where
  pub loaded : is_some s.load ≡ true
  pub counted : (load_on s).count ≤ 39
  pub primed : (load_on s).primary < (load_on s).count
  pub stands : s.row.count ≤ 64
  pub filled : length (load_on s).points ≡ 39
  pub roomy : length s.row.edits ≡ 64

pub data Good (s : Sheet) : Type 0 where
  blank : is_some s.load ≡ false → Good s
  held : Held s → Good s

-- how a call ends on a sheet, beside how it ends on a journal
abbrev pub Agree : Answer × Sheet → Answer × Journal → Type 0
Agree r o = (r.0 ≡ o.0) × (journal_of r.1 ≡ o.1) × Good r.1

pub usable_held : (s : Sheet) → Held s → usable s ≡ true
unfolding usable
usable_held s h =
    rw (h.loaded, le-leb (load_on s).count 39 h.counted, lt-ltb (load_on s).primary (load_on s).count h.primed, le-leb s.row.count 64 h.stands)

pub usable_blank : (s : Sheet) → is_some s.load ≡ false → usable s ≡ false
unfolding usable
usable_blank s e = rw e

pub journal_held : (s : Sheet) → Held s → journal_of s ≡ holds (load_of s) (row_of s)
journal_held s h = rw h.loaded

pub journal_blank : (s : Sheet) → is_some s.load ≡ false → journal_of s ≡ empty
journal_blank s e = rw e

-- ---- a refused call, and one edit more
keeps : (s : Sheet) (h : Held s) (n : ℕ) → Agree (after_edit (kept_by n s)) (no n [], holds (load_of s) (row_of s))
keeps s h n = (refl, journal_held s h, held h)

adds : (s : Sheet) (h : Held s) (e : Edit) → s.row.count < 64
    → Agree (after_edit (leaves (add_edit s e))) (ok [] [], holds (load_of s) (row_of s ++ change_of e ∷ []))
unfolding add_edit
adds s h e l = (
  refl,
  rw h.loaded (ap (holds (load_of s)) row),
  held (record {
    loaded = h.loaded;
    counted = h.counted;
    primed = h.primed;
    stands = omega arith;
    filled = h.filled;
    roomy = length-set s.row.edits s.row.count e ∙ h.roomy;
  }),
)
  where
    row : row_at (set s.row.edits s.row.count e) (s.row.count + 1) ≡ row_of s ++ change_of e ∷ []
    row =
        rw add-one
        (ap₂ (λ (r : List Change) (d : Edit). r ++ change_of d ∷ [])
        (row_kept e s.row.edits s.row.count s.row.count (omega arith))
        (get_or-set_same s.row.edits s.row.count e blank_edit (omega (arith, h.roomy))))

-- ---- 8, 9 and 10 on the sheet and in the journal
not_less : (a b : ℕ) → leb b a ≡ not (ltb a b)
not_less a b = by (ltb a b) refl
  where
    by : (t : Bool) → ltb a b ≡ t → leb b a ≡ not t
    by true e = lt-leb b a (ltb-true a b e)
    by false e = le-leb b a (ltb-false a b e)

full : (s : Sheet) → is_full (row_of s) ≡ not (ltb s.row.count 64)
full s = rw (row_count s.row.edits s.row.count) (not_less s.row.count 64)

present_frame_lem : (s : Sheet) → frame_of s ≡ frame_after (load_on s).frame (row_of s)
unfolding frame_of placed_at
present_frame_lem s = placed_frame_lem (load_on s).frame (get_or (load_on s).points (load_on s).primary no_point) s.row.edits s.row.count

bad_cut_lem : (s : Sheet) (l t w h : ℕ) → is_bad_cut l t w h (frame_after (load_on s).frame (row_of s)) ≡ not (is_good_cut l t w h (frame_of s))
unfolding is_bad_cut lies_in
bad_cut_lem s l t w h =
    let f = frame_after (load_on s).frame (row_of s) in
    rw (present_frame_lem s, some_side w, some_side h, not_less f.width (l + w), not_less f.height (t + h))
    (by (eqb w 0) (eqb h 0) (ltb f.width (l + w)) (ltb f.height (t + h)))
  where
    by : (a b c d : Bool) → a || (b || (c || d)) ≡ not (not a && not b && not c && not d)
    by true b c d = refl
    by false true c d = refl
    by false false true d = refl
    by false false false true = refl
    by false false false false = refl

    some_side : (n : ℕ) → ltb 0 n ≡ not (eqb n 0)
    some_side n = side n (eqb n 0) refl
      where
        side : (n : ℕ) (t : Bool) → eqb n 0 ≡ t → ltb 0 n ≡ not t
        side n true e = rw (eqb-true n 0 e) refl
        side n false e = let z = eqb-false n 0 e in lt-ltb 0 n (omega arith)

is_listed_lem : (q : Carried) → still_listed (point_of q) ≡ q.listed
is_listed_lem q = by q.listed
  where
    by : (b : Bool) → still_listed (cond b (Some q.point) None) ≡ b
    by true = refl
    by false = refl

primary_stays : (s : Sheet) (h : Held s) (e : Edit)
    → still_listed (primary_after (load_of s) (row_of s ++ change_of e ∷ [])) ≡ keeps_primary s e
unfolding keeps_primary placed_at
primary_stays s h e =
    let p = get_or (load_on s).points (load_on s).primary no_point in
    let q = placed (load_on s).frame p s.row.edits s.row.count in
    let more = placed_more (load_on s).frame p s.row.edits e s.row.count (placed_point (load_on s).frame p s.row.edits s.row.count) in
    rw (get_or-take (load_on s).count (load_on s).points (load_on s).primary no_point h.primed)
    (ap still_listed (sym more) ∙ is_listed_lem (moved e q))

-- ---- orientation
orients : (s : Sheet) (h : Held s) (n : ℕ) → Agree (after_edit (orient_sheet s n)) (journal_change (holds (load_of s) (row_of s)) (orient n))
unfolding orient_sheet orientation_of if_open journal_change change_refusal is_outside
orients s h n =
    rw (usable_held s h, full s) (by (ltb s.row.count 64) refl (ltb n 1 || ltb 8 n) refl)
  where
    by : (a : Bool) → ltb s.row.count 64 ≡ a → (b : Bool) → ltb n 1 || ltb 8 n ≡ b →
        Agree
        (after_edit (cond a (orient_to s (cond b (refused 15) (accepted (get_or eight (n - 1) Normal)))) (kept_by 8 s)))
        (ended (cond (not a) (Some 8) (cond b (Some 15) None)) (holds (load_of s) (row_of s)) (holds (load_of s) (row_of s ++ orient n ∷ [])))
    by true q true p = keeps s h 15
    by true q false p =
        let e : orientation_number (get_or eight (n - 1) Normal) ≡ n = stands_for_one n (get_or eight (n - 1) Normal) (rw p) in
        rw e at (adds s h (Orient (get_or eight (n - 1) Normal)) (ltb-true s.row.count 64 q))
    by false q b p = keeps s h 8

-- ---- cut
cuts : (s : Sheet) (h : Held s) (l t w k : ℕ) → Agree (after_edit (cut_sheet s l t w k)) (journal_change (holds (load_of s) (row_of s)) (cut l t w k))
unfolding cut_sheet if_open journal_change change_refusal
cuts s h l t w k =
    rw (usable_held s h, full s, bad_cut_lem s l t w k, primary_stays s h (Cut (rectangle l t w k)))
    (by (ltb s.row.count 64) refl (is_good_cut l t w k (frame_of s)) (keeps_primary s (Cut (rectangle l t w k))))
  where
    by : (a : Bool) → ltb s.row.count 64 ≡ a → (b c : Bool) →
        Agree
        (after_edit (cond a (cond b (cond c (leaves (add_edit s (Cut (rectangle l t w k)))) (kept_by 10 s)) (kept_by 9 s)) (kept_by 8 s)))
        (ended (cond (not a) (Some 8) (cond (not b) (Some 9) (cond c None (Some 10)))) (holds (load_of s) (row_of s)) (holds (load_of s) (row_of s ++ cut l t w k ∷ [])))
    by true q true true = adds s h (Cut (rectangle l t w k)) (ltb-true s.row.count 64 q)
    by true q true false = keeps s h 10
    by true q false c = keeps s h 9
    by false q b c = keeps s h 8

changes : (s : Sheet) (h : Held s) (c : Change) → Agree (after_edit (changed s c)) (journal_change (holds (load_of s) (row_of s)) c)
changes s h (cut l t w k) = cuts s h l t w k
changes s h (orient n) = orients s h n

-- ---- back
fewer : (s : Sheet) (h : Held s) → (s.row.count ≡ 0 → ⊥)
    → Agree (after_edit (leaves (with_row s (without_last s.row))))
    (ok [] [], holds (load_of s) (take (length (row_of s) - 1) (row_of s)))
fewer s h z = (
  refl,
  rw h.loaded (ap (holds (load_of s)) (row s.row.count z)),
  held (record {
    loaded = h.loaded;
    counted = h.counted;
    primed = h.primed;
    stands = omega (arith, h.stands);
    filled = h.filled;
    roomy = h.roomy;
  }),
)
  where
    row : (n : ℕ) → (n ≡ 0 → ⊥) → row_at s.row.edits (n - 1) ≡ take (length (row_at s.row.edits n) - 1) (row_at s.row.edits n)
    row zero y = absurd (y refl)
    row (suc n) y = rw (sub-one (suc n)) (sym (but_last (row_at s.row.edits n) _))

backs : (s : Sheet) (h : Held s) → Agree (after_edit (back_sheet s)) (journal_back (holds (load_of s) (row_of s)))
unfolding back_sheet journal_back back_refusal
backs s h =
    rw (usable_held s h, row_count s.row.edits s.row.count) (by (eqb s.row.count 0) refl)
  where
    by : (t : Bool) → eqb s.row.count 0 ≡ t
        → Agree (after_edit (cond t (kept_by 11 s) (leaves (with_row s (without_last s.row)))))
        (ended (cond t (Some 11) None) (holds (load_of s) (row_of s)) (holds (load_of s) (take (s.row.count - 1) (row_of s))))
    by true q = keeps s h 11
    by false q = rw (row_count s.row.edits s.row.count) at (fewer s h (eqb-false s.row.count 0 q))

-- ---- list and fit
listed_held : (s : Sheet) → Held s → sheetListing s ≡ listing (load_of s) (row_of s)
unfolding sheetListing
listed_held s h = listed_to_is s (load_on s).count (omega (arith, h.counted, h.filled))

index_held : (s : Sheet) → Held s → list_index s ≡ primary_index (load_of s) (row_of s)
unfolding list_index
index_held s h =
    ap length (listed_to_is s (load_on s).primary (omega (arith, h.primed, h.counted, h.filled)))
    ∙ ap (λ (ps : List FocusPoint). length (listed (load_on s).frame (row_of s) ps))
    (sym (take-take (load_on s).primary (load_on s).count (load_on s).points (le_of_lt h.primed)))

-- once the sheet is loaded and the box has no zero side: the points ps, as many as are listed, in the frame f
writes : (s : Sheet) (h : Held s) (f : Size) (ps : List FocusPoint) (b : List ℕ) → length ps ≡ length (listing (load_of s) (row_of s))
    → (after_list (cond (is_short s (length b)) (refused 13) (accepted (head_in f s)))
    (cond (is_short s (length b)) b (flat ps ++ drop (length (flat ps)) b)) s).0
    ≡ written (load_of s) (row_of s) f ps b
unfolding is_short head_in list_count head_of written
writes s h f ps b e =
    rw (listed_held s h, index_held s h, flat_length ps, flat_numbers ps, ← e)
    (by (ltb (length b) (6 * length ps)))
  where
    by : (t : Bool) → ◌≡◌ {A = Answer} (after_list (cond t (refused 13) (accepted (head (load_of s) (row_of s) f ps)))
        (cond t b (numbers ps ++ drop (6 * length ps) b)) s).0
        (cond t (no 13 b) (ok (head (load_of s) (row_of s) f ps) (numbers ps ++ drop (6 * length ps) b)))
    by true = refl
    by false = refl

lists : (s : Sheet) (h : Held s) (b : List ℕ)
    → (after_list (list_outcome s (length b)) (list_buffer s b) s).0 ≡ journal_list (holds (load_of s) (row_of s)) b
unfolding list_outcome list_buffer journal_list
lists s h b =
    rw (usable_held s h, present_frame_lem s, listed_held s h)
    (writes s h (frame_after (load_on s).frame (row_of s)) (listing (load_of s) (row_of s)) b refl)

boxes : (s : Sheet) (h : Held s) (box : Size) (b : List ℕ)
    → (after_list (outcome_in_box s box (length b)) (buffer_in_box s box b) s).0 ≡ answer_in_box (load_of s) (row_of s) box b
unfolding outcome_in_box buffer_in_box scaled_all answer_in_box
boxes s h box b =
    rw (usable_held s h, present_frame_lem s, listed_held s h) (by (has_zero_side box) (same_shape (present_frame (load_of s) (row_of s)) box))
  where
    ps : List FocusPoint
    ps = fitted (load_of s) (row_of s) box

    by : (z t : Bool) → (after_list (cond z (refused 12) (cond t (cond (is_short s (length b)) (refused 13) (accepted (head_in box s))) (refused 19)))
        (cond z b (cond t (cond (is_short s (length b)) b (flat ps ++ drop (length (flat ps)) b)) b)) s).0
        ≡ cond z (no 12 b) (cond t (written (load_of s) (row_of s) box ps b) (no 19 b))
    by true t = refl
    by false false = refl
    by false true = writes s h box ps b (length-map (listing (load_of s) (row_of s)) (λ p. scaled_point p (present_frame (load_of s) (row_of s)) box))

fits : (s : Sheet) (h : Held s) (box : Size) (b : List ℕ)
    → (after_list (fit_outcome s box (length b)) (fit_buffer s box b) s).0 ≡ journal_fit (holds (load_of s) (row_of s)) box b
unfolding fit_outcome fit_buffer journal_fit
fits s h box b = rw (present_frame_lem s) (boxes s h (fit_box (load_of s) (row_of s) box) b)

-- ---- load
pub loads : (s : Sheet) (g : Good s) (o : Outcome Focus) → Sound o → Agree (after_edit (load_sheet s o)) (journal_load (journal_of s) o)
unfolding load_sheet loaded_sheet laid_focus no_edits focus_in journal_load
loads s g (refused n) d = (refl, refl, g)
loads s g (accepted f) d = (
  refl,
  ap (λ (ps : List FocusPoint). holds (record { frame = f.frame; points = ps; primary = f.primary; mode = f.mode; origin = f.origin }) [])
      (take_places f.points),
  held (record {
    loaded = refl;
    counted = d.room;
    primed = d.primary_in;
    stands = omega arith;
    filled = length_places f.points d.room;
    roomy = refl;
  }),
)

-- ---- any call
abbrev pub AgreeAt : Sheet → Call → Type 0
AgreeAt s c = Agree (sheet_step s c) (journal_step (journal_of s) c)

blank_step : (s : Sheet) (e : is_some s.load ≡ false) (c : Call) → AgreeAt s c
unfolding sheet_step journal_step orient_sheet back_sheet cut_sheet if_open list_outcome list_buffer fit_outcome fit_buffer outcome_in_box buffer_in_box journal_change journal_back journal_list journal_fit
blank_step s e (load block raw picture model) =
    loads s (blank e) (focus_of block raw picture model) (focus_sound block raw picture model)
blank_step s e (change (cut l t w h)) = rw (usable_blank s e, journal_blank s e) (refl, refl, blank e)
blank_step s e (change (orient n)) = rw (usable_blank s e, journal_blank s e) (refl, refl, blank e)
blank_step s e back = rw (usable_blank s e, journal_blank s e) (refl, refl, blank e)
blank_step s e (list b) = rw (usable_blank s e, journal_blank s e) (refl, refl, blank e)
blank_step s e (fit box b) = rw (usable_blank s e, journal_blank s e) (refl, refl, blank e)

held_step : (s : Sheet) (h : Held s) (c : Call) → AgreeAt s c
unfolding sheet_step journal_step
held_step s h (load block raw picture model) =
    loads s (held h) (focus_of block raw picture model) (focus_sound block raw picture model)
held_step s h (change c) = rw (journal_held s h) (changes s h c)
held_step s h back = rw (journal_held s h) (backs s h)
held_step s h (list b) = rw (journal_held s h) (lists s h b, refl, held h)
held_step s h (fit box b) = rw (journal_held s h) (fits s h box b, refl, held h)

pub step : (s : Sheet) (g : Good s) (c : Call) → AgreeAt s c
step s (blank e) c = blank_step s e c
step s (held h) c = held_step s h c

-- ---- any list of calls
runs : (cs : List Call) (s : Sheet) → Good s → run_sheet s cs ≡ run_journal (journal_of s) cs
unfolding run_sheet run_journal
runs [] s g = refl
runs (c ∷ cs) s g =
    let a = step s g c in
    ap₂ (λ (x : Answer) (xs : List Answer). x ∷ xs) a.0
    (runs cs (sheet_step s c).1 a.2 ∙ ap (λ (j : Journal). run_journal j cs) a.1)

pub claim : Claim
unfolding fresh_sheet
claim calls = runs calls fresh_sheet (blank refl)
