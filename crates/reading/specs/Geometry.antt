-- Rectangles: a corner and a size, and when one lies in a frame.
use Rattle.std.specs.Prelude.{◌+◌, Bool, ◌&&◌, leb, ltb}
use Rattle.reading.specs.declared.geometry.Size.{Size}
use Rattle.reading.specs.declared.geometry.Point.{Point}
use Rattle.reading.specs.declared.geometry.Rectangle.{Rectangle}

-- the top left corner
abbrev pub corner_of : Rectangle → Point
corner_of r = record { x = r.left; y = r.top }

abbrev pub size_of : Rectangle → Size
size_of r = record { width = r.width; height = r.height }

-- whether a rectangle has no zero side and does not pass the frame: the sums are exact
unfoldable pub lies_in : Rectangle → Size → Bool
lies_in r frame =
    ltb 0 r.width && ltb 0 r.height && leb (r.left + r.width) frame.width &&
    leb (r.top + r.height) frame.height
