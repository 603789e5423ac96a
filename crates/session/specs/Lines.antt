-- 01, "After the sheet": what a line spells. Nothing of the sheet stands here.
use Rattle.std.specs.Prelude.{ℕ, cond, List, replicate}
use Rattle.reading.specs.Outcome.{Outcome, refused, accepted}
use Rattle.hex_lines.specs.Hex.{well_formed, bytes_of}
use Rattle.calls.specs.Format.{LineCall, line_load, line_cut, line_back, line_list, line_fit, line_contents, line_orient, call_of, model_given, block_given}
use Rattle.journal.specs.Journal.{cut, orient}
use Rattle.journal.specs.Calls.{Call, load, change, back, list, fit}

-- a question for a block's contents, or a call of the journal (01's book)
pub data Spelled : Type 0 where
  contents : List ℕ → Spelled
  asks : Call → Spelled

-- the buffer that a listing is lent: six places for each of 39 points
abbrev pub lent_buffer : List ℕ
lent_buffer = replicate 234 0

-- what a call spells with the model and the block that it is given
abbrev pub spelling : LineCall → List ℕ → List ℕ → Spelled
spelling (line_load raw picture) model block = asks (load block raw picture model)
spelling (line_cut left top width height) model block = asks (change (cut left top width height))
spelling line_back model block = asks back
spelling line_list model block = asks (list lent_buffer)
spelling (line_fit box) model block = asks (fit box lent_buffer)
spelling line_contents model block = contents block
spelling (line_orient number) model block = asks (change (orient number))

-- of a line's bytes, with how they read
abbrev pub spelled_by : List ℕ → Outcome LineCall → Outcome Spelled
spelled_by b (refused n) = refused n
spelled_by b (accepted call) = accepted (spelling call (model_given call b) (block_given call b))

-- of the bytes, and of the line: "one call a line"; 14, "call line malformed"
unfoldable pub spelled_in : List ℕ → Outcome Spelled
spelled_in b = spelled_by b (call_of b)

unfoldable pub spelled : List ℕ → Outcome Spelled
spelled line = cond (well_formed line) (spelled_in (bytes_of line)) (refused 14)
