-- Points in 39 places: how many places there are, the points read back, and one more point. Assumes nothing.
use Prim.Native.Nat.{suc, ◌+◌, ◌-◌, ◌<◌, ◌≤◌}
use mathlib.Core.List.{List, [], ◌∷◌, ◌++◌}
use mathlib.Core.Path.{◌≡◌, refl, sym, ◌∙◌}
use lib.ListN.{length, take, set, replicate, length-append, length-replicate}
use lib.Seq.{take_at, set_at, append_snoc}
use native.Mathlib.Omega.{arith}
use Rattle.placing.specs.declared.focus.FocusPoint.{FocusPoint}
use Rattle.placing.specs.Load.{no_point}
use Rattle.placing.specs.Laid.{places}

pub length_places : (ps : List FocusPoint) → length ps ≤ 39 → length (places ps) ≡ 39
unfolding places
length_places ps h = rw (length-append, length-replicate) (omega arith)

pub take_places : (ps : List FocusPoint) → take (length ps) (places ps) ≡ ps
unfolding places
take_places ps = take_at ps (replicate (39 - length ps) no_point) (length ps) refl

pub set_places : (ps : List FocusPoint) (p : FocusPoint) → length ps < 39 → set (places ps) (length ps) p ≡ places (ps ++ p ∷ [])
unfolding places
set_places ps p h =
    let e : 39 - length ps ≡ suc (38 - length ps) = omega arith in
    let g : 39 - (length ps + 1) ≡ 38 - length ps = omega arith in
    rw (e, length-append, g)
    (set_at ps no_point (replicate (38 - length ps) no_point) p (length ps) refl ∙
    sym (append_snoc ps p (replicate (38 - length ps) no_point)))
