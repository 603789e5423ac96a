-- 01, "After the sheet": six numbers a point in a lent buffer, and what is said beside them.
use Rattle.std.specs.Prelude.{ℕ, ◌*◌, Bool, cond, ◌&&◌, List, [], ◌∷◌, ◌++◌, leb, length, take, drop, Result, Ok, Err}
use Rattle.reading.specs.Outcome.{Outcome, refused, accepted}
use Rattle.reading.specs.Focus.{in_focus_number}
use Rattle.placing.specs.declared.focus.FocusPoint.{FocusPoint}
use Rattle.sheet.specs.Head.{head_of}
use Rattle.sheet.specs.declared.head.ListHead.{ListHead}
use Rattle.sheet.specs.declared.listing.ListRefusal.{ListRefusal}
use Rattle.sheet.specs.declared.listing.ListRefusal.TheVariants.{Empty, ZeroBox, ShapesDiffer, Short}

-- what a head says, in 01's numbers
abbrev pub head_numbers : ListHead → List ℕ
head_numbers l = head_of l.frame l.count l.index l.mode l.origin

-- the documents' number for each refusal
abbrev pub list_refusal_number : ListRefusal → ℕ
list_refusal_number Empty = 7
list_refusal_number ZeroBox = 12
list_refusal_number ShapesDiffer = 19
list_refusal_number Short = 13

-- what the code's result means: the numbers that are given, or that of the refusal
abbrev pub list_means : Result ListHead ListRefusal → Outcome (List ℕ)
list_means (Ok l) = accepted (head_numbers l)
list_means (Err why) = refused (list_refusal_number why)

-- "six 32-bit numbers a point: number (0 if recorded), x, y, width, height (both 0 without area), in-focus"
unfoldable pub six : FocusPoint → List ℕ
six p =
    p.number ∷
    p.center.x ∷
    p.center.y ∷ p.size.width ∷ p.size.height ∷ in_focus_number p.in_focus ∷ []

unfoldable pub flat : List FocusPoint → List ℕ
flat [] = []
flat (p ∷ ps) = six p ++ flat ps

-- some numbers written at a buffer's front: "the rest of the buffer is kept"
abbrev pub over : List ℕ → List ℕ → List ℕ
over vs b = vs ++ drop (length vs) b

-- whether the first n of 39 points have room in a buffer of m places
unfoldable pub has_room : ℕ → ℕ → Bool
has_room n m = leb n 39 && leb (6 * n) m

-- the first n points, written at a buffer's front where they have room
unfoldable pub with_points : List FocusPoint → ℕ → List ℕ → List ℕ
with_points ps n b = cond (has_room n (length b)) (over (flat (take n ps)) b) b
