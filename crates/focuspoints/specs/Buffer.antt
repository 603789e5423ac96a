-- Numbers in a caller's buffer.
use Rattle.std.specs.Prelude.{ℕ, cond, List, ltb, length}
use Rattle.sheet.specs.Listing.{over}

-- 13 where a buffer of `room` places has none for n numbers, else 0
unfoldable pub room_number : ℕ → ℕ → ℕ
room_number n room = cond (ltb room n) 13 0

-- n numbers at the buffer's front, the rest kept; all of it where they have no room
unfoldable pub with_numbers : ℕ → List ℕ → List ℕ → List ℕ
with_numbers n vs out = cond (ltb (length out) n) out (over vs out)
