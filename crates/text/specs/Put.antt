-- What an appender leaves: text laid over a buffer from a place on, and the place after it.
use Rattle.std.specs.Prelude.{ℕ, ◌+◌, ◌≤◌, min, ◌≡◌, List, length}
use Rattle.std.proofs.lemmas.List.Edits.{sets}
use Rattle.text.specs.declared.Writer.{Writer}

-- a place is a usize: it stops at the largest one
abbrev pub capped : ℕ → ℕ
capped n = min n 18446744073709551615

-- `text` laid over `before` from `at` on gives `after`, and the next place is `next`. All other places are kept. What would lie past
-- the buffer's end is not laid, but counted: so a caller can tell whether all of it has found room
pub record Put (before : List ℕ) (at : ℕ) (text : List ℕ) (after : List ℕ) (next : ℕ) : Type 0 where
  pub laid : after ≡ sets before at text
  pub place : next ≡ capped (at + length text)
  -- a buffer has a usize of places: callers count on it
  pub counted : length before ≤ 18446744073709551615

-- what a writer's method leaves: its buffer is the same one, and the text is put there, from the writer's place on
pub record Writes (before : Writer) (text : List ℕ) (after : Writer) : Type 0 where
  pub same_buffer : after.out.ghost_name ≡ before.out.ghost_name
  pub put : Put before.out.now before.at text after.out.now after.at

-- the same of a text of `most` characters at the most
pub record WritesUpTo (before : Writer) (text : List ℕ) (most : ℕ) (after : Writer) : Type 0 where
  pub same_buffer : after.out.ghost_name ≡ before.out.ghost_name
  pub put : Put before.out.now before.at text after.out.now after.at
  pub short : length text ≤ most
