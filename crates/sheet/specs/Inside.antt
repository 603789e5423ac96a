-- What only the code of this crate needs: no promise to a caller rests on it.
use Rattle.std.specs.Borrow.{Bor}
use Rattle.std.specs.Prelude.{ℕ, zero, suc, Bool, cond, List, [], ◌++◌, ◌≡◌, ◌<◌, true, false, leb, length, Option, MatchOption, Result, MatchResult}
use Rattle.reading.specs.declared.focus.InFocus.{InFocus}
use Rattle.reading.specs.declared.geometry.Point.{Point}
use Rattle.reading.specs.declared.geometry.Size.{Size}
use Rattle.placing.specs.Fit.{swapped}
use Rattle.placing.specs.declared.focus.FocusPoint.{FocusPoint}
use Rattle.placing.specs.declared.load.FocusPoints.{FocusPoints}
use Rattle.placing.specs.Laid.{places}
use Rattle.sheet.specs.declared.Sheet.{Sheet}
use Rattle.sheet.specs.declared.edits.Carried.{Carried}
use Rattle.sheet.specs.declared.Present.{Present}
use Rattle.placing.specs.declared.focus.Framed.{Framed}
use Rattle.sheet.specs.Orientation.{point, moved_to, framed}
use Rattle.reading.specs.Outcome.{Outcome, refused, accepted}
use Rattle.sheet.specs.declared.edits.EditRefusal.{EditRefusal}
use Rattle.sheet.specs.Answer.{edit_refusal_number}
use Rattle.sheet.specs.Sheet.{load_on, kept_by, usable, if_open, placed_at}
use Rattle.sheet.specs.Head.{head_of}
use Rattle.sheet.specs.Listing.{has_room}
use Rattle.sheet.specs.Lists.{if_carried}

-- of the load's first i points, those from index a on that no standing cut dropped, in the load's order and where the edits carry them
unfoldable pub listed_between : Sheet → ℕ → ℕ → List FocusPoint
listed_between s a zero = []
listed_between s a (suc i) = listed_between s a i ++ cond (leb a i) (if_carried (placed_at s i)) []

-- these in 39 places, and where the primary is
unfoldable pub present_of : Sheet → ℕ → ℕ → Present
present_of s a b =
    record {
      primary = placed_at s (load_on s).primary;
      points = places (listed_between s a b);
      count = length (listed_between s a b);
      index = length (listed_between s a (load_on s).primary);
    }

-- what is said beside n points in the frame f, the primary at the index k
abbrev pub head_by : FocusPoints → Size → ℕ → ℕ → List ℕ
head_by l f n k = head_of f n k l.area_mode l.origin

-- how their listing ends, for a buffer of m places: 13, or what is given
abbrev pub written_outcome : FocusPoints → Size → ℕ → ℕ → ℕ → Outcome (List ℕ)
written_outcome l f n k m = cond (has_room n m) (accepted (head_by l f n k)) (refused 13)

-- an orientation in one step: the point at (x, y), the frame and the area as they are
abbrev pub placed_upright : ℕ → ℕ → Framed → Framed
placed_upright x y q = framed q.frame (moved_to q.point (point x y) q.point.size)

-- and with their sides exchanged
abbrev pub placed_across : ℕ → ℕ → Framed → Framed
placed_across x y q = framed (swapped q.frame) (moved_to q.point (point x y) (swapped q.point.size))

-- a point that is carried, by its parts
abbrev pub carried_by : Bool → ℕ → Point → Size → InFocus → Size → Carried
carried_by b n c a g f =
    record {
      listed = b;
      point = record { number = n; center = c; size = a; in_focus = g };
      frame = f;
    }

-- a usable load of the sheet, or none where the sheet is not usable
abbrev pub LoadedAt : Sheet → Option (Bor FocusPoints) → Type 0
LoadedAt s o = MatchOption o (usable s ≡ false) (λ load. (usable s ≡ true) × (load.now ≡ load_on s))

-- what cut and orient test first: past it the sheet is usable and one more edit may stand; refused, it is how they end
abbrev pub Opens : Sheet → Result (Bor FocusPoints) EditRefusal → Type 0
Opens s r =
    MatchResult r (λ load. (usable s ≡ true) × (s.row.count < 64) × (load.now ≡ load_on s))
    (λ why. (x : Outcome (List ℕ) × Sheet) → if_open s x ≡ kept_by (edit_refusal_number why) s)
