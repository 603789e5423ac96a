-- 01, "After the sheet": a script that comes in pieces. What is held of a line whose feed has not come yet, what each piece is
-- answered, how much of it is used, and what the end of the input is answered.
use Rattle.std.specs.Prelude.{ℕ, ◌+◌, ◌<◌, ◌≤◌, cond, List, [], ◌∷◌, ◌++◌, ◌⊎◌, ◌≡◌, eqb, leb, length, take, set}
use Rattle.text.specs.Put.{Put}
use Rattle.sheet.specs.declared.Sheet.{Sheet}
use Rattle.session.specs.Lines.{spelled}
use Rattle.session.specs.Answering.{sheet_text, sheet_next, most_text}
use Rattle.stream.specs.declared.Fed.{Fed}

-- of a line, so many characters are held: one more than "at most 4,096 characters before the line feed", so that an overlong line is
-- known as one. What follows in it is skipped
abbrev pub line_room : ℕ
line_room = 4097

-- one more character of a line of which `h` is held
abbrev pub held_with : List ℕ → ℕ → List ℕ
held_with h c = take line_room (h ++ (c ∷ []))

-- what is held after a piece: a line ends at its line feed, 10, and then nothing is held
unfoldable pub held_after_piece : List ℕ → List ℕ → List ℕ
held_after_piece h [] = h
held_after_piece h (c ∷ piece) = cond (eqb c 10) (held_after_piece [] piece) (held_after_piece (held_with h c) piece)

-- the lent line after a piece: a character is stored behind what is held, unless the line is full, and all other places are kept
unfoldable pub line_after_piece : List ℕ → List ℕ → List ℕ → List ℕ
line_after_piece line h [] = line
line_after_piece line h (c ∷ piece) =
    cond (eqb c 10) (line_after_piece line [] piece) (line_after_piece (set line (length h) c) (held_with h c) piece)

-- the sheet after a piece: each line that ends in it is one call
unfoldable pub sheet_after_piece : Sheet → List ℕ → List ℕ → Sheet
sheet_after_piece s h [] = s
sheet_after_piece s h (c ∷ piece) =
    cond (eqb c 10) (sheet_after_piece (sheet_next s (spelled h)) [] piece) (sheet_after_piece s (held_with h c) piece)

-- what a piece is answered: each line that ends in it
unfoldable pub piece_text : Sheet → List ℕ → List ℕ → List ℕ
piece_text s h [] = []
piece_text s h (c ∷ piece) =
    cond (eqb c 10) (sheet_text s (spelled h) ++ piece_text (sheet_next s (spelled h)) [] piece) (piece_text s (held_with h c) piece)

-- at the end of the input: "The last feed may be missing, and nothing after a last feed is no line."
unfoldable pub last_text : Sheet → List ℕ → List ℕ
last_text s h = cond (eqb (length h) 0) [] (sheet_text s (spelled h))

-- ---- how much of a piece is used, where the buffer has `room` places: said line by line, as it fixes what `feed` answers of it
-- n where a place leaves room for the longest answer, else 0
abbrev pub if_room : ℕ → ℕ → ℕ → ℕ
if_room room at n = cond (leb (at + most_text) room) n 0

-- from inside a line on: the line to its feed, then the lines after it, each only where the place after the answer before leaves room
-- for its own
unfoldable pub used_in_line : ℕ → Sheet → List ℕ → ℕ → List ℕ → ℕ
used_in_line room s h at [] = 0
used_in_line room s h at (c ∷ piece) =
    1 +
    cond (eqb c 10)
    (if_room room (at + length (sheet_text s (spelled h)))
    (used_in_line room (sheet_next s (spelled h)) [] (at + length (sheet_text s (spelled h))) piece))
    (used_in_line room s (held_with h c) at piece)

-- line by line, each only where there is room for its answer: else it stops before the line
unfoldable pub used_of : ℕ → Sheet → List ℕ → ℕ → List ℕ → ℕ
used_of room s h at piece = if_room room at (used_in_line room s h at piece)

-- ---- what `feed` and `last` promise
-- the lent line after characters `t`, where `h` was held at its front: the line whole, and how many characters at its front are held
pub record Holding (line₀ h t line : List ℕ) (n : ℕ) : Type 0 where
  pub line_after : line ≡ line_after_piece line₀ h t
  pub held_after : take n line ≡ held_after_piece h t
  pub held_count : n ≡ length (held_after_piece h t)

-- the sheet and the line after them
pub record Taken (s : Sheet) (line₀ h t : List ℕ) (sheet : Sheet) (line : List ℕ) (n : ℕ) : Type 0 where
  pub sheet_after : sheet ≡ sheet_after_piece s h t
  pub holding : Holding line₀ h t line n

-- a piece `input`, where `h` is held: how much of it is used, the sheet and the line after that, and its text at a place in the buffer.
-- These three say the whole outcome (`OneOutcome` in Claim.antt). The others follow: from a place in the buffer all of the text finds
-- room, so no answer is cut; and the piece is used to its end, unless the buffer may have no room for another answer
pub record Feeds (s : Sheet) (line₀ h input before : List ℕ) (at : ℕ) (after line : List ℕ) (r : Fed) : Type 0 where
  pub used_is : r.used ≡ used_of (length before) s h at input
  pub taken : Taken s line₀ h (take r.used input) r.sheet line r.held
  pub put : Put before at (piece_text s h (take r.used input)) after r.at
  pub used_part : r.used ≤ length input
  pub none_cut : at ≤ length before → at + length (piece_text s h (take r.used input)) ≤ length before
  pub used_on : (r.used ≡ length input) ⊎ (length before < r.at + most_text)

-- the end of the input, where `h` is held
pub record Ends (s : Sheet) (h before : List ℕ) (at : ℕ) (after : List ℕ) (next : ℕ) : Type 0 where
  pub put : Put before at (last_text s h) after next
  pub short : length (last_text s h) ≤ most_text
