-- The claim of streaming: pieces of any size, handed to `feed` one after the other, are answered what the script that they make up is
-- answered, which the journal (01's book) alone says; and each call has one outcome. proofs/Claim.antt proves both.
use Rattle.std.specs.Prelude.{ℕ, ◌+◌, ◌-◌, ◌≤◌, List, [], ◌++◌, ◌≡◌, length, take, drop}
use Rattle.sheet.specs.declared.Sheet.{Sheet}
use Rattle.sheet.specs.Sheet.{fresh_sheet}
use Rattle.session.specs.Answering.{most_text}
use Rattle.script.specs.Script.{script_text}
use Rattle.stream.specs.declared.Fed.{Fed}
use Rattle.stream.specs.Stream.{Feeds, Ends}

-- the bytes of a buffer from a place to the next
abbrev pub between : ℕ → ℕ → List ℕ → List ℕ
between at next buffer = take (next - at) (drop at buffer)

-- calls of `feed`: the first with the fresh sheet and nothing held, each other one with the sheet, the line and the count that the one
-- before left, with any piece and at any place of any buffer. `script` is what they used, `text` is what they wrote
pub data FedCalls : List ℕ → List ℕ → Sheet → List ℕ → ℕ → Type 0 where
  none_yet : (line : List ℕ) → FedCalls [] [] fresh_sheet line 0
  one_more : {script text line : List ℕ} {s : Sheet} {held : ℕ} (input before : List ℕ) (at : ℕ) (after line₁ : List ℕ) (r : Fed)
      → FedCalls script text s line held
      → Feeds s line (take held line) input before at after line₁ r
      → FedCalls (script ++ take r.used input) (text ++ between at r.at after) r.sheet line₁ r.held

-- after them the end of the input, at a place that leaves room for the longest answer
abbrev pub StreamClaim : Type 0
StreamClaim =
    (script text line : List ℕ) (s : Sheet) (held : ℕ) (before : List ℕ) (at : ℕ) (after : List ℕ) (next : ℕ)
    → FedCalls script text s line held
    → at + most_text ≤ length before
    → Ends s (take held line) before at after next
    → text ++ between at next after ≡ script_text script

-- what `feed` promises of a call leaves one outcome: both buffers, and what it answers
abbrev pub OneOutcome : Type 0
OneOutcome =
    (s : Sheet) (line h input before : List ℕ) (at : ℕ) (after line₁ : List ℕ) (r : Fed) (after₂ line₂ : List ℕ) (r₂ : Fed)
    → Feeds s line h input before at after line₁ r
    → Feeds s line h input before at after₂ line₂ r₂
    → (after ≡ after₂) × (line₁ ≡ line₂) × (r ≡ r₂)
