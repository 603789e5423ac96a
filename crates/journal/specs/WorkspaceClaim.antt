-- 02, 2026-03: one claim over every list of a workspace's calls, and what follows from it. proofs/WorkspaceAgrees.antt proves the claim,
-- and `EightAtMost`; what else follows is proved in proofs/Latest.antt (keeps and returns, and `NamesAreKept`), KeptNames.antt (names),
-- Alone.antt (a workspace beside a sheet), RefusalsIn.antt (the last load, and when a call is refused) and AnyWorkspace.antt (what a refused
-- call keeps, and a workspace made by hand).
use Rattle.std.specs.Prelude.{Option, Some, None}
use Rattle.reading.specs.declared.geometry.Size.{Size}
use Rattle.std.specs.Prelude.{ℕ, ◌*◌, ◌<◌, ◌≤◌, Bool, true, false, ◌&&◌, cond, List, [], ◌∷◌, ◌++◌, map, ◌↔◌, ◌⊎◌, ◌≡◌, length, drop}
use Rattle.numbers.specs.Bytes.{same}
use Rattle.reading.specs.Outcome.{refused, accepted, is_accepted}
use Rattle.placing.specs.Focus.{focus_of}
use Rattle.placing.specs.Load.{Focus}
use Rattle.sheet.specs.Sheet.{fresh_sheet}
use Rattle.workspace.specs.declared.Workspace.{Workspace}
use Rattle.workspace.specs.Workspace.{fresh_workspace}
use Rattle.journal.specs.Journal.{Change, Journal, empty, holds, present_frame, Answer, no, ok, numbers, head}
use Rattle.journal.specs.Calls.{Call, load, list, is_load, journal_step}
use Rattle.journal.specs.SheetCalls.{run_sheet}
use Rattle.journal.specs.Claim.{after, answer, last_load, held_load, shown, PrimaryListed, Refuses}
use Rattle.journal.specs.WorkspaceJournal.{NamedEdits, WorkspaceJournal, with, empty_in, kept_under, WorkspaceCall, on_sheet, keep, return, lent_in, run_journal_in, journal_after_in}
use Rattle.journal.specs.WorkspaceCalls.{workspace_step, run_workspace, workspace_after}

-- "A list of calls may now hold keeps and returns. The book holds the names too": each call of the list answers, and leaves the buffer,
-- as the journal says, which is fed the calls alone
abbrev pub WorkspaceClaim : Type 0
WorkspaceClaim = (calls : List WorkspaceCall) → run_workspace fresh_workspace calls ≡ run_journal_in empty_in calls

-- ---- after a list of calls
-- the journal, and what the workspace answers to one call more
abbrev pub after_in : List WorkspaceCall → WorkspaceJournal
after_in calls = journal_after_in empty_in calls

abbrev pub answer_in : List WorkspaceCall → WorkspaceCall → Answer
answer_in calls c = (workspace_step (workspace_after fresh_workspace calls) c).0

-- ---- the last accepted load
-- the sheet's calls of a list, without the keeps and returns among them
unfoldable pub sheet_calls : List WorkspaceCall → List Call
sheet_calls [] = []
sheet_calls (on_sheet c ∷ cs) = c ∷ sheet_calls cs
sheet_calls (keep name ∷ cs) = sheet_calls cs
sheet_calls (return name ∷ cs) = sheet_calls cs

-- it is what the journal holds: no keep and no return brings another
abbrev pub HoldsLastLoadIn : Type 0
HoldsLastLoadIn = (calls : List WorkspaceCall) → held_load (after_in calls).journal ≡ last_load (sheet_calls calls)

abbrev pub is_load_in : WorkspaceCall → Bool
is_load_in (on_sheet c) = is_load c
is_load_in (keep name) = false
is_load_in (return name) = false

-- before it the workspace is empty: any call but a load is refused by 7
abbrev pub EmptyBeforeIn : Type 0
EmptyBeforeIn =
    (calls : List WorkspaceCall) (c : WorkspaceCall) → last_load (sheet_calls calls) ≡ None → is_load_in c ≡ false →
    answer_in calls c ≡ no 7 (lent_in c)

-- ---- the latest accepted keep under a name since the last accepted load: the calls before it, if there is one
-- what is known of it after one call more: an accepted load forgets it, an accepted keep under that name is it
abbrev pub latest_by : List ℕ → List WorkspaceCall → Option (List WorkspaceCall) → WorkspaceCall → Option (List WorkspaceCall)
latest_by name before latest (on_sheet c) =
    cond (is_load c && is_accepted (answer_in before (on_sheet c)).outcome) None latest
latest_by name before latest (keep other) =
    cond (is_accepted (answer_in before (keep other)).outcome && same other name) (Some before) latest
latest_by name before latest (return other) = latest

unfoldable pub latest_from : List ℕ → List WorkspaceCall → Option (List WorkspaceCall) → List WorkspaceCall → Option (List WorkspaceCall)
latest_from name before latest [] = latest
latest_from name before latest (c ∷ cs) = latest_from name (before ++ c ∷ []) (latest_by name before latest c) cs

abbrev pub latest_keep : List ℕ → List WorkspaceCall → Option (List WorkspaceCall)
latest_keep name calls = latest_from name [] None calls

-- a return to the keep that came after the calls `before`: it is accepted; the load and the standing edits are those of then; every
-- call of the sheet is answered as it would have been then
pub record StandsAgain (calls before : List WorkspaceCall) (name : List ℕ) : Type 0 where
  pub accepts : answer_in calls (return name) ≡ ok [] []
  pub stands : (after_in (calls ++ return name ∷ [])).journal ≡ (after_in before).journal
  pub answers : (c : Call) → answer_in (calls ++ return name ∷ []) (on_sheet c) ≡ answer_in before (on_sheet c)

-- "the standing edits after a return are those that stood at the latest accepted keep under that name"
abbrev pub ReturnsToLatest : Type 0
ReturnsToLatest =
    (calls before : List WorkspaceCall) (name : List ℕ) → latest_keep name calls ≡ Some before → StandsAgain calls before name

-- without such a keep there is no coming back
abbrev pub NoKeepNoReturn : Type 0
NoKeepNoReturn =
    (calls : List WorkspaceCall) (name : List ℕ) → latest_keep name calls ≡ None →
    is_accepted (answer_in calls (return name)).outcome ≡ false

-- a keep is no edit: accepted or not, every call of the sheet is answered after it as it would have been before
abbrev pub KeepIsNoEdit : Type 0
KeepIsNoEdit =
    (calls : List WorkspaceCall) (name : List ℕ) (c : Call) →
    answer_in (calls ++ keep name ∷ []) (on_sheet c) ≡ answer_in calls (on_sheet c)

-- ---- names
-- names are bytes, and compared exactly
abbrev pub ComparedExactly : Type 0
ComparedExactly = (a b : List ℕ) → (same a b ≡ true) ↔ (a ≡ b)

-- "a name kept again is replaced": no name is kept twice, so that eight are eight different ones
unfoldable pub Differ : List NamedEdits → Type 0
Differ [] = Unit
Differ (k ∷ ks) = (kept_under k.name ks ≡ None) × Differ ks

abbrev pub NamesDiffer : Type 0
NamesDiffer = (calls : List WorkspaceCall) → Differ (after_in calls).names

-- the names are those that were kept since the last accepted load, and no others
abbrev pub NamesAreKept : Type 0
NamesAreKept =
    (calls : List WorkspaceCall) (name : List ℕ) → (kept_under name (after_in calls).names ≡ None) ↔ (latest_keep name calls ≡ None)

-- "at most eight names"
abbrev pub EightAtMost : Type 0
EightAtMost = (calls : List WorkspaceCall) → length (after_in calls).names ≤ 8

-- ---- a workspace beside a sheet
-- a list without keeps and returns answers as the sheet alone does
abbrev pub SheetAlone : Type 0
SheetAlone = (calls : List Call) → run_workspace fresh_workspace (map on_sheet calls) ≡ run_sheet fresh_sheet calls

-- whatever is kept, a call of the sheet is judged by the sheet's journal alone, and leaves it as it does alone
pub record AsOnSheet (calls : List WorkspaceCall) (c : Call) : Type 0 where
  pub answers : answer_in calls (on_sheet c) ≡ (journal_step (after_in calls).journal c).0
  pub next_journal : (after_in (calls ++ on_sheet c ∷ [])).journal ≡ (journal_step (after_in calls).journal c).1

abbrev pub SheetsOwnCalls : Type 0
SheetsOwnCalls = (calls : List WorkspaceCall) (c : Call) → AsOnSheet calls c

-- after any list of calls what the sheet's journal holds is what some list of the sheet's calls alone leads to, and a further call of the
-- sheet is answered as after that list
pub record AsSheet (calls : List WorkspaceCall) : Type 0 where
  pub alone : List Call
  pub same_journal : after alone ≡ (after_in calls).journal
  pub same_answers : (c : Call) → answer_in calls (on_sheet c) ≡ answer alone c

abbrev pub AsSomeSheet : Type 0
AsSomeSheet = (calls : List WorkspaceCall) → AsSheet calls

-- the primary stays listed, whatever a return brings back
abbrev pub PrimaryIsListedIn : Type 0
PrimaryIsListedIn =
    (calls : List WorkspaceCall) (f : Focus) (standing : List Change) → (after_in calls).journal ≡ holds f standing →
    PrimaryListed f standing

-- the listing is exactly the last accepted load's points that fit inside every standing cut, each where the standing edits carry it
abbrev pub ListsExactlyIn : Type 0
ListsExactlyIn =
    (calls : List WorkspaceCall) (f : Focus) (standing : List Change) → (after_in calls).journal ≡ holds f standing →
    (buffer : List ℕ) → 6 * length (shown f standing) ≤ length buffer →
    answer_in calls (on_sheet (list buffer)) ≡
    ok (head f standing (present_frame f standing) (shown f standing))
    (numbers (shown f standing) ++ drop (6 * length (shown f standing)) buffer)

-- ---- refusals
-- 16: "name empty or too long", and when it is neither
abbrev pub BadName : List ℕ → Type 0
BadName name = (length name ≡ 0) ⊎ (16 < length name)

pub record GoodName (name : List ℕ) : Type 0 where
  pub some_bytes : 1 ≤ length name
  pub not_long : length name ≤ 16

-- when a call is refused by a number, from what the journal holds: a call of the sheet as on the sheet alone; else by the lowest: "16,
-- name empty or too long; 17, a ninth name; 18, no such name; all after 7, in that order"
pub data RefusesIn : WorkspaceJournal → WorkspaceCall → ℕ → Type 0 where
  of_sheet : {j : Journal} {ks : List NamedEdits} {c : Call} {n : ℕ} → Refuses j c n → RefusesIn (with j ks) (on_sheet c) n
  -- "sheet is empty"
  empty_keep : {ks : List NamedEdits} {name : List ℕ} → RefusesIn (with empty ks) (keep name) 7
  empty_return : {ks : List NamedEdits} {name : List ℕ} → RefusesIn (with empty ks) (return name) 7
  -- "name empty or too long"
  bad_keep : {f : Focus} {standing : List Change} {ks : List NamedEdits} {name : List ℕ} → BadName name
      → RefusesIn (with (holds f standing) ks) (keep name) 16
  bad_return : {f : Focus} {standing : List Change} {ks : List NamedEdits} {name : List ℕ} → BadName name
      → RefusesIn (with (holds f standing) ks) (return name) 16
  -- "a ninth name": eight are kept, and this is none of them
  ninth : {f : Focus} {standing : List Change} {ks : List NamedEdits} {name : List ℕ} → GoodName name → kept_under name ks ≡ None
      → 8 ≤ length ks → RefusesIn (with (holds f standing) ks) (keep name) 17
  -- "no such name"
  no_such_name : {f : Focus} {standing : List Change} {ks : List NamedEdits} {name : List ℕ} → GoodName name → kept_under name ks ≡ None
      → RefusesIn (with (holds f standing) ks) (return name) 18

-- a call is refused exactly when its refusals say
abbrev pub RefusedExactlyIn : Type 0
RefusedExactlyIn =
    (calls : List WorkspaceCall) (c : WorkspaceCall) (n : ℕ) → ((answer_in calls c).outcome ≡ refused n) ↔ RefusesIn (after_in calls) c n

-- on every workspace, also one made by hand, a refused call leaves the workspace, names and all, and the buffer as they were
abbrev pub RefusedKeepsIn : Type 0
RefusedKeepsIn =
    (w : Workspace) (c : WorkspaceCall) (n : ℕ) → (workspace_step w c).0.outcome ≡ refused n →
    ((workspace_step w c).1 ≡ w) × ((workspace_step w c).0.buffer ≡ lent_in c)

-- ---- a workspace made by hand
-- after an accepted load on any workspace all goes on as the journal says, without names
abbrev pub LoadOnAnyIn : Type 0
LoadOnAnyIn =
    (w : Workspace) (block : List ℕ) (raw picture : Option Size) (model : List ℕ) (f : Focus) →
    focus_of block raw picture model ≡ accepted f →
    (calls : List WorkspaceCall) →
    run_workspace w (on_sheet (load block raw picture model) ∷ calls) ≡ ok [] [] ∷ run_journal_in (with (holds f []) []) calls

-- one whose count passes its places is empty to every call but load
abbrev pub UncountedIsEmpty : Type 0
UncountedIsEmpty =
    (w : Workspace) (c : WorkspaceCall) → 8 < w.count → is_load_in c ≡ false → workspace_step w c ≡ (no 7 (lent_in c), w)
