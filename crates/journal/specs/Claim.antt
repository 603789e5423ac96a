-- Demand 3, as one claim over every list of calls, and what follows from it, in demand 3's words. proofs/Claim.antt proves the
-- claim; what follows is proved in proofs/Answers.antt (any sheet that is loaded), Shown.antt (what is listed), Fitted.antt,
-- Refusals.antt and Kept.antt (a refused call).
use Rattle.std.specs.Prelude.{Option, Some, None}
use Rattle.std.specs.Prelude.{ℕ, ◌+◌, ◌*◌, ◌≤◌, ◌<◌, Bool, true, false, ◌&&◌, cond, List, [], ◌∷◌, ◌++◌, map, ◌↔◌, ◌⊎◌, ◌≡◌, get_or, length, take, drop}
use Rattle.reading.specs.Outcome.{Outcome, refused, accepted}
use Rattle.reading.specs.declared.geometry.Size.{Size}
use Rattle.placing.specs.declared.focus.FocusPoint.{FocusPoint}
use Rattle.placing.specs.Fit.{has_zero_side, point_fits}
use Rattle.placing.specs.FittingLaws.{CenterNear, OnFrame}
use Rattle.placing.specs.Focus.{focus_of}
use Rattle.placing.specs.Load.{Focus, no_point}
use Rattle.shape.specs.Shape.{shape_difference, longest_side}
use Rattle.sheet.specs.declared.Sheet.{Sheet}
use Rattle.sheet.specs.Sheet.{fresh_sheet}
use Rattle.journal.specs.Journal.{Change, cut, orient, Journal, empty, holds, frame_by, point_by, stays_listed, present_frame, listing, primary_index, primary_of, primary_after, fit_box, fitted, Answer, no, ok, numbers, head}
use Rattle.journal.specs.Calls.{Call, load, change, back, list, fit, lent, is_load, run_journal, journal_after}
use Rattle.journal.specs.SheetCalls.{sheet_step, run_sheet, sheet_after}

-- "Demand 3 is a single claim about a whole list of calls. .. The list starts from the fresh sheet, which is empty. .. Each call of
-- the list answers the book's number or is accepted with it."
abbrev pub Claim : Type 0
Claim = (calls : List Call) → run_sheet fresh_sheet calls ≡ run_journal empty calls

-- ---- after a list of calls
-- the journal, and what the sheet answers to one call more
abbrev pub after : List Call → Journal
after calls = journal_after empty calls

abbrev pub answer : List Call → Call → Answer
answer calls c = (sheet_step (sheet_after fresh_sheet calls) c).0

-- ---- the last accepted load
abbrev pub newest : Option Focus → Outcome Focus → Option Focus
newest last (refused n) = last
newest last (accepted f) = Some f

unfoldable pub last_from : Option Focus → List Call → Option Focus
last_from last [] = last
last_from last (load block raw picture model ∷ cs) = last_from (newest last (focus_of block raw picture model)) cs
last_from last (change c ∷ cs) = last_from last cs
last_from last (back ∷ cs) = last_from last cs
last_from last (list buffer ∷ cs) = last_from last cs
last_from last (fit box buffer ∷ cs) = last_from last cs

-- of a list of calls: none where no load of the list is accepted
abbrev pub last_load : List Call → Option Focus
last_load calls = last_from None calls

abbrev pub held_load : Journal → Option Focus
held_load empty = None
held_load (holds f standing) = Some f

-- the journal holds the last accepted load
abbrev pub HoldsLastLoad : Type 0
HoldsLastLoad = (calls : List Call) → held_load (after calls) ≡ last_load calls

-- before an accepted load the sheet is empty: any call but a load is refused by 7
abbrev pub EmptyBefore : Type 0
EmptyBefore = (calls : List Call) (c : Call) → last_load calls ≡ None → is_load c ≡ false → answer calls c ≡ no 7 (lent c)

-- ---- what is listed
-- where edits carry a point alone, and whether it fits inside every cut among them
unfoldable pub place_after : Size → List Change → FocusPoint → FocusPoint
place_after f [] p = p
place_after f (c ∷ cs) p = place_after (frame_by c f) cs (point_by c f p)

unfoldable pub fits_every_cut : Size → List Change → FocusPoint → Bool
fits_every_cut f [] p = true
fits_every_cut f (c ∷ cs) p = stays_listed c f p && fits_every_cut (frame_by c f) cs (point_by c f p)

unfoldable pub filtered : (FocusPoint → Bool) → List FocusPoint → List FocusPoint
filtered test [] = []
filtered test (p ∷ ps) = cond (test p) (p ∷ filtered test ps) (filtered test ps)

-- of some points of a load: those that fit inside every standing cut, in the load's order, each where the edits carry it
unfoldable pub shown_of : Focus → List Change → List FocusPoint → List FocusPoint
shown_of f standing ps = map (place_after f.frame standing) (filtered (fits_every_cut f.frame standing) ps)

abbrev pub shown : Focus → List Change → List FocusPoint
shown f standing = shown_of f standing f.points

abbrev pub shown_before : Focus → List Change → List FocusPoint
shown_before f standing = shown_of f standing (take f.primary f.points)

-- the journal says just this
abbrev pub ListingIsShown : Type 0
ListingIsShown =
    (f : Focus) (standing : List Change) →
    (listing f standing ≡ shown f standing) × (primary_index f standing ≡ length (shown_before f standing))

-- the listing is exactly the last accepted load's points, in that order, that fit inside every standing cut, each where the
-- standing edits carry it; count is their number
abbrev pub ListsExactly : Type 0
ListsExactly =
    (calls : List Call) (f : Focus) (standing : List Change) → after calls ≡ holds f standing →
    (buffer : List ℕ) → 6 * length (shown f standing) ≤ length buffer →
    answer calls (list buffer) ≡
    ok (head f standing (present_frame f standing) (shown f standing))
    (numbers (shown f standing) ++ drop (6 * length (shown f standing)) buffer)

-- the primary is among them: the answer's index is its place
pub record PrimaryListed (f : Focus) (standing : List Change) : Type 0 where
  pub in_listing : primary_index f standing < length (shown f standing)
  pub before_it : take (primary_index f standing) (shown f standing) ≡ shown_before f standing
  pub at_index : get_or (shown f standing) (primary_index f standing) no_point ≡ place_after f.frame standing (primary_of f)
  pub in_every_cut : fits_every_cut f.frame standing (primary_of f) ≡ true

abbrev pub PrimaryIsListed : Type 0
PrimaryIsListed =
    (calls : List Call) (f : Focus) (standing : List Change) → after calls ≡ holds f standing → PrimaryListed f standing

-- every listed point fits the present frame
abbrev pub ListedFits : Type 0
ListedFits =
    (calls : List Call) (f : Focus) (standing : List Change) → after calls ≡ holds f standing →
    (i : ℕ) → i < length (shown f standing) → point_fits (present_frame f standing) (get_or (shown f standing) i no_point) ≡ true

-- ---- refusals
-- 9: a cut "has a zero side or passes the present frame"
abbrev pub BadCut : ℕ → ℕ → ℕ → ℕ → Size → Type 0
BadCut left top width height f =
    (width ≡ 0) ⊎ ((height ≡ 0) ⊎ ((f.width < left + width) ⊎ (f.height < top + height)))

-- and when it does neither
pub record GoodCut (left top width height : ℕ) (f : Size) : Type 0 where
  pub wide : 0 < width
  pub high : 0 < height
  pub across : left + width ≤ f.width
  pub down : top + height ≤ f.height

-- 19: "shapes differ"
abbrev pub OtherShape : Size → Size → Type 0
OtherShape f box = longest_side f box < shape_difference f box

-- a box that is neither 12 nor 19: 02's accepted box. It is asked of the box that a fit works with
pub record GoodBox (f box : Size) : Type 0 where
  pub no_zero_side : has_zero_side box ≡ false
  pub same_shape : shape_difference f box ≤ longest_side f box

-- when a call is refused by a number, from what the journal holds: the lowest that applies, but that 19 is "between 12 and 13". "Load can
-- give 1 to 6; cut 7 to 10; .. back 7, 11; list 7, 13; fit 7, 12, 13", and now 19; an orientation is "judged by 7, 8 and 15"
pub data Refuses : Journal → Call → ℕ → Type 0 where
  -- 1 to 6, as demand 2 says
  not_loaded : {j : Journal} {block : List ℕ} {raw picture : Option Size} {model : List ℕ} {n : ℕ}
      → focus_of block raw picture model ≡ refused n → Refuses j (load block raw picture model) n
  -- "sheet is empty"
  is_empty : {c : Call} → is_load c ≡ false → Refuses empty c 7
  -- "64 edits stand"
  full : {f : Focus} {standing : List Change} {c : Change} → 64 ≤ length standing → Refuses (holds f standing) (change c) 8
  -- "cut has a zero side or passes the present frame"
  bad_cut : {f : Focus} {standing : List Change} {left top width height : ℕ} → length standing < 64
      → BadCut left top width height (present_frame f standing) → Refuses (holds f standing) (change (cut left top width height)) 9
  -- "cut would drop the primary"
  drops_primary : {f : Focus} {standing : List Change} {left top width height : ℕ} → length standing < 64
      → GoodCut left top width height (present_frame f standing) → primary_after f (standing ++ cut left top width height ∷ []) ≡ None
      → Refuses (holds f standing) (change (cut left top width height)) 10
  -- "number outside 1 to 8, after 8"
  outside : {f : Focus} {standing : List Change} {n : ℕ} → length standing < 64 → (n < 1) ⊎ (8 < n)
      → Refuses (holds f standing) (change (orient n)) 15
  -- "back, but no edit stands"
  nothing_stands : {f : Focus} → Refuses (holds f []) back 11
  -- "box for fitting has a zero side", and 02: "Both zero, or a worked side of 0"
  zero_box : {f : Focus} {standing : List Change} {box : Size} {buffer : List ℕ} → has_zero_side (fit_box f standing box) ≡ true
      → Refuses (holds f standing) (fit box buffer) 12
  -- 02: "shapes differ", of the present frame and "the worked box"
  shapes_differ : {f : Focus} {standing : List Change} {box : Size} {buffer : List ℕ} → has_zero_side (fit_box f standing box) ≡ false
      → OtherShape (present_frame f standing) (fit_box f standing box) → Refuses (holds f standing) (fit box buffer) 19
  -- "buffer shorter than 6 × count"
  short : {f : Focus} {standing : List Change} {buffer : List ℕ} → length buffer < 6 * length (listing f standing)
      → Refuses (holds f standing) (list buffer) 13
  short_fit : {f : Focus} {standing : List Change} {box : Size} {buffer : List ℕ} → GoodBox (present_frame f standing) (fit_box f standing box)
      → length buffer < 6 * length (listing f standing) → Refuses (holds f standing) (fit box buffer) 13

-- a call is refused exactly when its refusals say
abbrev pub RefusedExactly : Type 0
RefusedExactly =
    (calls : List Call) (c : Call) (n : ℕ) → ((answer calls c).outcome ≡ refused n) ↔ Refuses (after calls) c n

-- on every sheet, also one made by hand, a refused call leaves sheet and buffer as they were
abbrev pub RefusedKeeps : Type 0
RefusedKeeps =
    (s : Sheet) (c : Call) (n : ℕ) → (sheet_step s c).0.outcome ≡ refused n →
    ((sheet_step s c).1 ≡ s) × ((sheet_step s c).0.buffer ≡ lent c)

-- "there a load does as on any sheet": after an accepted load on any sheet, also one made by hand, all goes on as the journal says
abbrev pub LoadOnAny : Type 0
LoadOnAny =
    (s : Sheet) (block : List ℕ) (raw picture : Option Size) (model : List ℕ) (f : Focus) →
    focus_of block raw picture model ≡ accepted f →
    (calls : List Call) → run_sheet s (load block raw picture model ∷ calls) ≡ ok [] [] ∷ run_journal (holds f []) calls

-- ---- fit
-- what fit gives and writes in the box that it works with, if that is accepted: this is the frame, and each point of the listing is scaled
-- to it from the present frame
abbrev pub FitsExactly : Type 0
FitsExactly =
    (calls : List Call) (f : Focus) (standing : List Change) → after calls ≡ holds f standing →
    (asked box : Size) → box ≡ fit_box f standing asked → GoodBox (present_frame f standing) box →
    (buffer : List ℕ) → 6 * length (shown f standing) ≤ length buffer →
    answer calls (fit asked buffer) ≡
    ok (head f standing box (fitted f standing box))
    (numbers (fitted f standing box) ++ drop (6 * length (fitted f standing box)) buffer)

-- of the i-th listed point: its fitted center is within half a pixel on both axes and lies on the box
pub record FittedNear (f : Focus) (standing : List Change) (box : Size) (i : ℕ) : Type 0 where
  pub half_pixel : CenterNear (get_or (listing f standing) i no_point).center (present_frame f standing) box (get_or (fitted f standing box) i no_point).center
  pub on_box : OnFrame box (get_or (fitted f standing box) i no_point).center

-- "The half pixel bound covers accepted boxes only.", worked ones too
abbrev pub FitIsNear : Type 0
FitIsNear =
    (calls : List Call) (f : Focus) (standing : List Change) → after calls ≡ holds f standing →
    (asked box : Size) → box ≡ fit_box f standing asked → GoodBox (present_frame f standing) box →
    asked.width ≤ 4294967295 → asked.height ≤ 4294967295 → (i : ℕ) → i < length (listing f standing) → FittedNear f standing box i
