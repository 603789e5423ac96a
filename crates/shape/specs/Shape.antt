-- 2026-05, "Boxes of another shape": when a box has the shape of a frame, "as `same_shape` in geometry.rs has it".
use Rattle.std.specs.Prelude.{ℕ, ◌+◌, ◌*◌, ◌-◌, max, Bool, leb}
use Rattle.reading.specs.declared.geometry.Size.{Size}

-- |a − b|. A subtraction that would come below 0 gives 0, so that the other one counts
abbrev pub difference : ℕ → ℕ → ℕ
difference a b = (a - b) + (b - a)

-- "|frame width × box height − frame height × box width|": the products are exact
abbrev pub shape_difference : Size → Size → ℕ
shape_difference frame box = difference (frame.width * box.height) (frame.height * box.width)

-- "the longest of the four sides"
abbrev pub longest_side : Size → Size → ℕ
longest_side frame box = max (max frame.width frame.height) (max box.width box.height)

-- the one "is at most" the other
unfoldable pub same_shape : Size → Size → Bool
same_shape frame box = leb (shape_difference frame box) (longest_side frame box)
