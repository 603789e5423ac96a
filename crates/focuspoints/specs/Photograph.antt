-- One photograph: what a load gives, listed at once, without edits. The load is that of `placing`, the listing that of the journal (01's
-- book) which holds it.
use Rattle.std.specs.Prelude.{Option, Some, None}
use Rattle.reading.specs.declared.geometry.Size.{Size}
use Rattle.std.specs.Prelude.{ℕ, ◌+◌, ◌*◌, cond, List, [], ◌++◌, ◌≡◌, eqb, length}
use Rattle.reading.specs.Outcome.{Outcome, refused, accepted}
use Rattle.placing.specs.Load.{Focus}
use Rattle.journal.specs.Journal.{present_frame, listing, head, numbers}
use Rattle.focuspoints.specs.Buffer.{room_number, with_numbers}

-- "raw and picture sizes (each may be missing)": a size is missing where its first number is 0, and then its sides are not looked at
unfoldable pub given_size : ℕ → ℕ → ℕ → Option Size
given_size given width height = cond (eqb given 0) None (Some (record { width = width; height = height }))

-- "frame, count, primary's index from 0, mode .., origin", and then "six 32-bit numbers a point", of a load with no edits
unfoldable pub listing_of : Focus → List ℕ
listing_of f = head f [] (present_frame f []) (listing f []) ++ numbers (listing f [])

-- how many numbers that is
unfoldable pub listing_length : Focus → ℕ
listing_length f = 6 + 6 * length (listing f [])

-- 1 to 6 as the load is judged, 13 where a buffer of `room` places is too short, or 0
unfoldable pub photograph_number : Outcome Focus → ℕ → ℕ
photograph_number (refused n) room = n
photograph_number (accepted f) room = room_number (listing_length f) room

-- the listing at the buffer's front, the rest kept; the whole buffer is kept where the number is not 0
unfoldable pub photograph_buffer : Outcome Focus → List ℕ → List ℕ
photograph_buffer (refused n) out = out
photograph_buffer (accepted f) out = with_numbers (listing_length f) (listing_of f) out

-- what the call returns and leaves, of what the load comes to
abbrev pub Photographed : Outcome Focus → List ℕ → ℕ → List ℕ → Type 0
Photographed load before r after = (r ≡ photograph_number load (length before)) × (after ≡ photograph_buffer load before)
