-- What the functions inside `stream` promise each other; nobody else need read it. A line is held up to a feed or the piece's end
-- (`RunTaken`), as if character by character (`CharKept`, `CharsTaken`), and answered where a feed ends it (`LineTaken`).
use Rattle.std.specs.Prelude.{ℕ, ◌+◌, ◌<◌, ◌≤◌, List, [], ◌++◌, ◌≡◌, length, take, drop, get_or, set}
use Rattle.text.specs.Put.{Put}
use Rattle.sheet.specs.declared.Sheet.{Sheet}
use Rattle.session.specs.Answering.{most_text}
use Rattle.stream.specs.declared.Fed.{Fed}
use Rattle.stream.specs.Stream.{held_with, sheet_after_piece, piece_text, used_in_line, used_of, Holding, Taken}

-- one more character, `b`, is held
pub record CharKept (line₀ : List ℕ) (held : ℕ) (b : ℕ) (line : List ℕ) (n : ℕ) : Type 0 where
  pub line_after : line ≡ set line₀ held b
  pub held_after : take n line ≡ held_with (take held line₀) b
  pub held_count : n ≡ length (held_with (take held line₀) b)

-- characters `t` of a line, none of them its feed: they change no sheet and are answered nothing, and no test for room stops them
pub record CharsTaken (line₀ h t line : List ℕ) (n : ℕ) : Type 0 where
  pub holding : Holding line₀ h t line n
  pub sheet_kept : (s : Sheet) → sheet_after_piece s h t ≡ s
  pub answers_nothing : (s : Sheet) → piece_text s h t ≡ []
  pub uses_all : (room at : ℕ) (s : Sheet) (u : List ℕ)
      → used_in_line room s h at (t ++ u) ≡ length t + used_in_line room s (take n line) at u

-- a run of a line's characters, up to its feed or the piece's end: so many of the piece are used, and so many are then held
pub record RunTaken (line₀ h input line : List ℕ) (held used : ℕ) : Type 0 where
  pub used_part : used ≤ length input
  pub chars : CharsTaken line₀ h (take used input) line held
  pub at_feed : used < length input → get_or input used 0 ≡ 10

-- one line of a piece, its feed included, or what there is of it; once begun it is used to its end, and the lines after it as there is
-- room from the place after its answer on
pub record LineTaken (s : Sheet) (line₀ h input before : List ℕ) (at : ℕ) (after line : List ℕ) (r : Fed) : Type 0 where
  pub taken : Taken s line₀ h (take r.used input) r.sheet line r.held
  pub put : Put before at (piece_text s h (take r.used input)) after r.at
  pub short : length (piece_text s h (take r.used input)) ≤ most_text
  pub used_part : r.used ≤ length input
  pub used_some : 0 < length input → 0 < r.used
  pub used_then : (room : ℕ)
      → used_in_line room s h at input
      ≡ r.used
      + used_of room r.sheet (take r.held line) (at + length (piece_text s h (take r.used input))) (drop r.used input)
