-- 01's whole case as calls, with 02's orientation: the block and the model of its first line, then orientation 6, a cut and a list call,
-- with a buffer of one place more than the listing needs. And 02's page editor on the same photograph: two cuts, and the first again.
use Rattle.std.specs.Prelude.{None}
use Rattle.std.specs.Prelude.{ℕ, List, [], ◌∷◌, ◌≡◌, replicate}
use Rattle.placing.specs.Points.{d600}
use Rattle.sheet.specs.Sheet.{fresh_sheet}
use Rattle.workspace.specs.Workspace.{fresh_workspace}
use Rattle.journal.specs.Journal.{cut, orient, ok}
use Rattle.journal.specs.Calls.{Call, load, change, back, list}
use Rattle.journal.specs.SheetCalls.{run_sheet}
use Rattle.journal.specs.WorkspaceJournal.{WorkspaceCall, on_sheet, keep, return}
use Rattle.journal.specs.WorkspaceCalls.{run_workspace}

-- a directory of one entry, 00B7, of 30 bytes: version 0100, layout code 3, primary 1, marked 1 and 16. The cut drops 16
abbrev block : List ℕ
block =
    77 ∷ 77 ∷ 0 ∷ 42 ∷ 0 ∷ 0 ∷ 0 ∷ 8 ∷ 0 ∷ 1 ∷ 0 ∷ 183 ∷ 0 ∷ 7 ∷ 0 ∷ 0 ∷
    0 ∷ 30 ∷ 0 ∷ 0 ∷ 0 ∷ 22 ∷ 48 ∷ 49 ∷ 48 ∷ 48 ∷ 0 ∷ 0 ∷ 3 ∷ 1 ∷ 1 ∷ 128 ∷
    0 ∷ 0 ∷ 0 ∷ 0 ∷ 0 ∷ 0 ∷ 0 ∷ 0 ∷ 0 ∷ 0 ∷ 0 ∷ 0 ∷ 0 ∷ 0 ∷ 0 ∷ 0 ∷
    0 ∷ 0 ∷ 0 ∷ 0 ∷ []

abbrev pub whole_case : List Call
whole_case = load block None None d600 ∷ change (orient 6) ∷ change (cut 1900 2900 400 400) ∷ list (replicate 7 9) ∷ []

-- three times "ok"; then "frame 400 400 points 1 primary 0 mode 1 origin 2" and "1 109 108 164 164 0". The seventh place of the buffer is kept
abbrev pub WholeCase : Type 0
WholeCase =
    run_sheet fresh_sheet whole_case ≡
    ok [] [] ∷
    ok [] [] ∷
    ok [] [] ∷
    ok (400 ∷ 400 ∷ 1 ∷ 0 ∷ 1 ∷ 2 ∷ []) (1 ∷ 109 ∷ 108 ∷ 164 ∷ 164 ∷ 0 ∷ 9 ∷ []) ∷ []

-- "Page editors try a cut for page one and another for inside, then want the first again": after orientation 6 a cut is kept as "one"; back;
-- another cut, kept as "two", and listed; then a return to "one", and a list
abbrev one : List ℕ
one = 111 ∷ 110 ∷ 101 ∷ []

abbrev two : List ℕ
two = 116 ∷ 119 ∷ 111 ∷ []

abbrev pub page_editor : List WorkspaceCall
page_editor =
    on_sheet (load block None None d600) ∷
    on_sheet (change (orient 6)) ∷
    on_sheet (change (cut 1900 2900 400 400)) ∷
    keep one ∷
    on_sheet back ∷
    on_sheet (change (cut 0 0 4016 4000)) ∷
    keep two ∷
    on_sheet (list (replicate 13 9)) ∷
    return one ∷
    on_sheet (list (replicate 7 9)) ∷ []

-- all are accepted; inside both points are listed, and on page one the listing is that of the whole case
abbrev pub PageEditor : Type 0
PageEditor =
    run_workspace fresh_workspace page_editor ≡
    ok [] [] ∷
    ok [] [] ∷
    ok [] [] ∷
    ok [] [] ∷
    ok [] [] ∷
    ok [] [] ∷
    ok [] [] ∷
    ok (4016 ∷ 4000 ∷ 2 ∷ 0 ∷ 1 ∷ 2 ∷ []) (1 ∷ 2009 ∷ 3008 ∷ 164 ∷ 164 ∷ 0 ∷ 16 ∷ 2009 ∷ 3486 ∷ 164 ∷ 164 ∷ 0 ∷ 9 ∷ []) ∷
    ok [] [] ∷
    ok (400 ∷ 400 ∷ 1 ∷ 0 ∷ 1 ∷ 2 ∷ []) (1 ∷ 109 ∷ 108 ∷ 164 ∷ 164 ∷ 0 ∷ 9 ∷ []) ∷ []
