-- What the sheet answers to lines, by the definitions that its contracts promise: its texts, the sheet that a line leaves, and what `step`
-- promises.
use Rattle.std.specs.Prelude.{ℕ, List, [], ◌∷◌, ◌≡◌}
use Rattle.text.specs.declared.Writer.{Writer}
use Rattle.text.specs.Put.{WritesUpTo}
use Rattle.reading.specs.Outcome.{Outcome, refused, accepted}
use Rattle.sheet.specs.declared.Sheet.{Sheet}
use Rattle.journal.specs.SheetCalls.{sheet_step}
use Rattle.session.specs.Lines.{Spelled, contents, asks, spelled}
use Rattle.session.specs.Texts.{text_by}

abbrev pub sheet_text : Sheet → Outcome Spelled → List ℕ
sheet_text s spelt = text_by (λ c. (sheet_step s c).0) spelt

-- 14: "sheet kept"; contents takes no sheet
abbrev pub sheet_next : Sheet → Outcome Spelled → Sheet
sheet_next s (refused n) = s
sheet_next s (accepted (contents block)) = s
sheet_next s (accepted (asks c)) = (sheet_step s c).1

-- a text for each line
unfoldable pub sheet_texts : Sheet → List (List ℕ) → List (List ℕ)
sheet_texts s [] = []
sheet_texts s (line ∷ lines) = sheet_text s (spelled line) ∷ sheet_texts (sheet_next s (spelled line)) lines

-- no answer is longer than this: a head line, and 39 lines of six numbers
abbrev pub most_text : ℕ
most_text = 2700

-- what answering leaves: the sheet, and its text behind what was written before
pub record Answers (s : Sheet) (spelt : Outcome Spelled) (before after : Writer) (next : Sheet) : Type 0 where
  pub left : next ≡ sheet_next s spelt
  pub written : WritesUpTo before (sheet_text s spelt) most_text after
