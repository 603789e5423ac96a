-- `put_point`: six stores are sets. Assumes nothing.
use mathlib.Core.Path.{◌≡◌}
use mathlib.Core.List.{List}
use Prim.Native.Nat.{ℕ, ◌+◌}
use native.Mathlib.Numerals.{add-one, add-two, add-three, add-four, add_five}
use lib.ListN.{set}
use lib.Seq.{sets}
use Rattle.reading.specs.Focus.{in_focus_number}
use Rattle.placing.specs.declared.focus.FocusPoint.{FocusPoint}
use Rattle.sheet.specs.Listing.{six}
use Rattle.sheet.proofs.listing.put_point.Goals as goal

six_stores : (l : List ℕ) (k : ℕ) (p : FocusPoint) (f : ℕ) → f ≡ in_focus_number p.in_focus →
    set (set (set (set (set (set l k p.number) (k + 1) p.center.x) (k + 2) p.center.y) (k + 3) p.size.width)
    (k + 4) p.size.height) (k + 5) f
    ≡ sets l k (six p)
unfolding six
six_stores l k p f e = rw (e, add-one k, add-two k, add-three k, add-four k, add_five k)

pub returns : goal.returns
returns c =
    six_stores c.args.out.now c.args.at
    c.args.point _ c.from.ensures
