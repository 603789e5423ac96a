-- The claim over lines: for every list of lines from the fresh sheet, the texts are those that the journal (01's book) gives for the
-- calls that the lines spell. proofs/Claim.antt proves it.
use Rattle.std.specs.Prelude.{ℕ, List, ◌≡◌}
use Rattle.sheet.specs.Sheet.{fresh_sheet}
use Rattle.journal.specs.Journal.{empty}
use Rattle.session.specs.Texts.{journal_texts}
use Rattle.session.specs.Answering.{sheet_texts}

abbrev pub LinesClaim : Type 0
LinesClaim = (lines : List (List ℕ)) → sheet_texts fresh_sheet lines ≡ journal_texts empty lines
