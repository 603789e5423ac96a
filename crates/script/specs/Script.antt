-- 01, "After the sheet": a script, its lines, and the whole text that they are answered, by the journal alone. Nothing of the sheet
-- stands here.
use Rattle.std.specs.Prelude.{ℕ, Bool, ◌&&◌, cond, leb, ltb, eqb, length, Option, Some, None}
use mathlib.Core.List.{List, [], ◌∷◌, ◌++◌, flatten}
use Rattle.std.proofs.lemmas.List.Edits.{sets}
use Rattle.journal.specs.Journal.{empty}
use Rattle.session.specs.Texts.{journal_texts}

-- the lines of what follows the characters `line`: a line ends at a line feed, 10. "The last feed may be missing, and nothing after a
-- last feed is no line."
unfoldable pub lines_from : List ℕ → List ℕ → List (List ℕ)
lines_from line [] = cond (eqb (length line) 0) [] (line ∷ [])
lines_from line (c ∷ script) = cond (eqb c 10) (line ∷ lines_from [] script) (lines_from (line ++ (c ∷ [])) script)

abbrev pub lines_of : List ℕ → List (List ℕ)
lines_of script = lines_from [] script

-- what a script is answered: for each line what the journal (01's book) gives for the call that the line spells, one after the other
unfoldable pub script_text : List ℕ → List ℕ
script_text script = flatten (journal_texts empty (lines_of script))

-- whether the buffer has room for a text, whose length is below the largest usize
abbrev pub room_for : List ℕ → List ℕ → Bool
room_for text out = ltb (length text) 18446744073709551615 && leb (length text) (length out)

-- the text stands in the buffer and is so long; none where there is no room for it. Neither is one of 01's numbers: these stand in the
-- text
unfoldable pub answered_with : List ℕ → List ℕ → Option ℕ
answered_with text out = cond (room_for text out) (Some (length text)) None

-- the text at the buffer's front, the rest kept; a buffer that is too short is kept whole
unfoldable pub buffer_with : List ℕ → List ℕ → List ℕ
buffer_with text out = cond (room_for text out) (sets out 0 text) out
