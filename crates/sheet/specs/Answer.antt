-- 01, 'Numbers returned', and 02's 15: how an edit or back ends.
use Rattle.std.specs.Prelude.{ℕ}
use Rattle.sheet.specs.declared.edits.EditRefusal.{EditRefusal}
use Rattle.sheet.specs.declared.edits.EditRefusal.TheVariants.{Empty, Full, BadCut, DropsPrimary, NothingStands, NoOrientation}

-- the documents' number for each way in which an edit is refused
abbrev pub edit_refusal_number : EditRefusal → ℕ
edit_refusal_number Empty = 7
edit_refusal_number Full = 8
edit_refusal_number BadCut = 9
edit_refusal_number DropsPrimary = 10
edit_refusal_number NothingStands = 11
edit_refusal_number NoOrientation = 15
