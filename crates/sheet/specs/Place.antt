-- 01, "Sheet": one point under edits.
use Rattle.std.specs.Prelude.{ℕ, zero, suc, ◌-◌, Bool, true, ◌&&◌, List, leb, get_or}
use Rattle.reading.specs.declared.geometry.Size.{Size}
use Rattle.reading.specs.declared.geometry.Rectangle.{Rectangle}
use Rattle.reading.specs.Geometry.{lies_in}
use Rattle.placing.specs.declared.focus.FocusPoint.{FocusPoint}
use Rattle.placing.specs.Fit.{point_fits, by}
use Rattle.sheet.specs.declared.edits.Edit.{Edit}
use Rattle.sheet.specs.declared.edits.Edit.TheVariants.{Orient, Cut}
use Rattle.sheet.specs.declared.edits.Carried.{Carried}
use Rattle.placing.specs.declared.focus.Framed.{Framed}
use Rattle.sheet.specs.Orientation.{point, moved_to, framed, oriented_by}

-- "Cut left, top, width, height subtracts (left, top)": a coordinate that would be below 0 is 0 here, and stays_on tells it
abbrev pub shifted_point : ℕ → ℕ → FocusPoint → FocusPoint
shifted_point l t p = moved_to p (point (p.center.x - l) (p.center.y - t)) p.size

-- "drops the points that don't fit": a point stays if no moved coordinate is below 0 and it fits the cut's frame
unfoldable pub stays_on : ℕ → ℕ → ℕ → ℕ → FocusPoint → Bool
stays_on l t w h p =
    leb l p.center.x && (leb t p.center.y && point_fits (by w h) (shifted_point l t p))

-- "makes width by height the frame, and drops the points that don't fit; they stay unlisted as long as that cut stands"
unfoldable pub cut_point : ℕ → ℕ → ℕ → ℕ → Carried → Carried
cut_point l t w h q =
    record {
      listed = q.listed && stays_on l t w h q.point;
      point = shifted_point l t q.point;
      frame = by w h;
    }

-- a point that was carried, with another place and another frame
abbrev pub carried_to : Carried → Framed → Carried
carried_to q r = record { listed = q.listed; point = r.point; frame = r.frame }

-- a point and its frame, moved by one edit
unfoldable pub moved : Edit → Carried → Carried
moved (Orient o) q = carried_to q (oriented_by o (framed q.frame q.point))
moved (Cut r) q = cut_point r.left r.top r.width r.height q

-- a cut's rectangle, of its numbers
abbrev pub rectangle : ℕ → ℕ → ℕ → ℕ → Rectangle
rectangle l t w h = record { left = l; top = t; width = w; height = h }

-- a cut that neither "has a zero side" nor "passes the present frame"
abbrev pub is_good_cut : ℕ → ℕ → ℕ → ℕ → Size → Bool
is_good_cut l t w h f = lies_in (rectangle l t w h) f

-- what stands in a place without an edit, and what the checker reads past the places' end
abbrev pub blank_edit : Edit
blank_edit = Cut (rectangle 0 0 0 0)

-- the edit at an index of a row
abbrev pub edit_at : List Edit → ℕ → Edit
edit_at es i = get_or es i blank_edit

-- "For one point, the place after n edits is the place after the first n − 1, moved by the nth."
unfoldable pub placed : Size → FocusPoint → List Edit → ℕ → Carried
placed f p es zero = record { listed = true; point = p; frame = f }
placed f p es (suc n) = moved (edit_at es n) (placed f p es n)

-- the same from the front: q moved by the n edits from index i on, the first of them first
unfoldable pub walked : List Edit → ℕ → ℕ → Carried → Carried
walked es i zero q = q
walked es i (suc n) q = walked es (suc i) n (moved (edit_at es i) q)
