-- Which of the four tags a block has, in a buffer: their number, and four places with the tags.
use Rattle.std.specs.Prelude.{ℕ, List, ◌∷◌, ◌≡◌, length}
use Rattle.reading.specs.Outcome.{Outcome, refused, accepted}
use Rattle.reading.specs.Contents.{tag_list}
use Rattle.focuspoints.specs.Buffer.{room_number, with_numbers}

-- 1 where the block cannot be read, 13 where a buffer of `room` places is too short, or 0
unfoldable pub contents_number : Outcome (List ℕ) → ℕ → ℕ
contents_number (refused n) room = n
contents_number (accepted tags) room = room_number 5 room

-- 01's "count and tags", by 02 (2026-01) "in the order of their first kept entries in the directory", "unused places are still 0 and stand
-- last": at the buffer's front, the rest kept; the whole buffer is kept where the number is not 0
unfoldable pub contents_buffer : Outcome (List ℕ) → List ℕ → List ℕ
contents_buffer (refused n) out = out
contents_buffer (accepted tags) out = with_numbers 5 (length tags ∷ (tag_list tags).tags) out

-- what the call returns and leaves, of what contents comes to
abbrev pub ContentsTold : Outcome (List ℕ) → List ℕ → ℕ → List ℕ → Type 0
ContentsTold contents before r after = (r ≡ contents_number contents (length before)) × (after ≡ contents_buffer contents before)
