-- 2026-06, "One side left blank": the box that a fit works with. A side that is left blank is 0.
use Rattle.std.specs.Prelude.{ℕ, cond, eqb}
use Rattle.reading.specs.declared.geometry.Size.{Size}
use Rattle.placing.specs.Fit.{by}
use Rattle.placing.specs.Scale.{scale_of}

-- a side of a box beside its other one: as it is, or, where it is blank, "the missing side is scale(that frame side, the given frame side,
-- the given side)"
unfoldable pub worked_side : ℕ → ℕ → ℕ → ℕ → ℕ
worked_side own other that given = cond (eqb own 0) (scale_of that given other) own

-- "A box with one zero side is now answered: the missing side is" worked out from the frame. A box with two sides is as given. Both
-- zero, both stay so: scale gives 0 of a given side of 0
unfoldable pub worked_box : Size → Size → Size
worked_box frame box =
    by (worked_side box.width box.height frame.width frame.height)
    (worked_side box.height box.width frame.height frame.width)
