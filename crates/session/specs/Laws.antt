-- Lines the other way round: the line that a call is written on, and what it spells. The lines that spell something are exactly those
-- of calls that can be written, in either case, which proofs/Spelled.antt proves.
use Rattle.std.specs.Prelude.{ℕ, ◌≤◌, List, ◌⊎◌, ◌≡◌, length}
use Rattle.reading.specs.Outcome.{refused, accepted}
use Rattle.hex_lines.specs.Laws.{AreBytes, line_of, upper_line}
use Rattle.calls.specs.Format.{LineCall}
use Rattle.calls.specs.Laws.{encoded, Encodable}
use Rattle.session.specs.Lines.{spelling, spelled}

-- the line that a call is written on, in upper case
abbrev pub call_line : LineCall → List ℕ → List ℕ → List ℕ
call_line call model block = line_of (encoded call model block)

-- a call that can be written on a line, of "at most 4,096 characters"
pub record Writable (call : LineCall) (model block : List ℕ) : Type 0 where
  pub encodable : Encodable call model block
  pub model_bytes : AreBytes model
  pub block_bytes : AreBytes block
  pub short : length (encoded call model block) ≤ 2048

-- a call's line spells that call, with the model and the block that it was given
abbrev pub LineIsRead : Type 0
LineIsRead =
    (call : LineCall) (model block : List ℕ) → Writable call model block → spelled (call_line call model block) ≡ accepted (spelling call model block)

-- "either case"
abbrev pub CaseIsIgnored : Type 0
CaseIsIgnored = (line : List ℕ) → spelled (upper_line line) ≡ spelled line

-- a line that is, in upper case, the line of a call, and spells that call
pub record WasEncoded (line : List ℕ) : Type 0 where
  pub call : LineCall
  pub model : List ℕ
  pub block : List ℕ
  pub writable : Writable call model block
  pub its_line : upper_line line ≡ call_line call model block
  pub spells : spelled line ≡ accepted (spelling call model block)

-- no other line spells anything: 14, "call line malformed"
abbrev pub LineWasEncoded : Type 0
LineWasEncoded = (line : List ℕ) → (spelled line ≡ refused 14) ⊎ WasEncoded line
