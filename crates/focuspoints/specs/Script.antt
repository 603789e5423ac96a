-- What answering a whole script returns; the text and the buffer are those of the crate `script`.
use Rattle.std.specs.Prelude.{ℕ, cond, List, length}
use Rattle.script.specs.Script.{room_for}

-- the text's length; the largest 64-bit number where it has no room
unfoldable pub script_length : List ℕ → List ℕ → ℕ
script_length text out = cond (room_for text out) (length text) 18446744073709551615
