-- A workspace beside a sheet. Its sheet answers the sheet's calls as it does alone. And whatever its calls, what its journal holds is
-- reached by a sheet's calls alone, as is what it would hold with any of the kept edits standing (`Reached`): by induction over the calls.
-- So its answers are those of a sheet after some calls. Assumes nothing.
use Rattle.std.specs.Prelude.{Option, Some, None}
use Prim.Native.Nat.{ℕ}
use mathlib.Core.Bool.{Bool, true, false, cond}
use mathlib.Core.List.{List, [], ◌∷◌, ◌++◌, map}
use mathlib.Core.Path.{◌≡◌, refl, sym, ap, ap₂, ◌∙◌}
use Rattle.numbers.specs.Bytes.{same}
use Rattle.reading.specs.Outcome.{Outcome, refused, accepted, is_accepted}
use Rattle.placing.specs.Focus.{focus_of}
use Rattle.placing.specs.Load.{Focus}
use Rattle.sheet.specs.declared.Sheet.{Sheet}
use Rattle.sheet.specs.Sheet.{load_sheet}
use Rattle.workspace.specs.declared.Workspace.{Workspace}
use Rattle.workspace.specs.Names.{is_bad_name}
use Rattle.workspace.specs.Workspace.{without_names, fresh_workspace, load_in, is_counted, edit_in, list_outcome_in, list_buffer_in, fit_outcome_in, fit_buffer_in}
use Rattle.journal.specs.Journal.{Change, Journal, empty, holds, Answer, no, ended, change_refusal, back_refusal, journal_load, journal_change, journal_back}
use Rattle.journal.specs.Calls.{Call, load, change, back, list, fit, journal_step, journal_after}
use Rattle.journal.specs.SheetCalls.{after_edit, sheet_step, run_sheet}
use Rattle.journal.specs.Claim.{after}
use Rattle.journal.specs.WorkspaceJournal.{NamedEdits, WorkspaceJournal, with, empty_in, kept_under, keep_under, WorkspaceCall, on_sheet, keep, return, names_after, journal_sheet, keep_refusal, journal_keep, returned, journal_return, journal_step_in, journal_after_in}
use Rattle.journal.specs.WorkspaceCalls.{sheet_step_in, workspace_step, run_workspace}
use Rattle.journal.specs.WorkspaceClaim.{SheetAlone, SheetsOwnCalls, AsSomeSheet, PrimaryIsListedIn, ListsExactlyIn}
use Rattle.journal.proofs.Answers.{answers, after_append}
use Rattle.journal.proofs.Shown.{lists_exactly, primary_is_listed}
use Rattle.journal.proofs.WorkspaceAgrees.{answers_in, after_snoc}

-- ---- the sheet's part of a call
record Part (r : Answer × Workspace) (s : Answer × Sheet) : Type 0 where
  answer : r.0 ≡ s.0
  sheet : r.1.sheet ≡ s.1
  counted : is_counted r.1 ≡ true

load_part : (w : Workspace) → is_counted w ≡ true → (o : Outcome Focus) → Part (after_edit (load_in w o)) (after_edit (load_sheet w.sheet o))
unfolding load_in without_names load_sheet
load_part w k (refused n) = record { answer = refl; sheet = refl; counted = k }
load_part w k (accepted f) = record { answer = refl; sheet = refl; counted = refl }

sheet_part : (w : Workspace) → is_counted w ≡ true → (c : Call) → Part (sheet_step_in w c) (sheet_step w.sheet c)
unfolding sheet_step_in sheet_step edit_in list_outcome_in list_buffer_in fit_outcome_in fit_buffer_in
sheet_part w k (load block raw picture model) = load_part w k (focus_of block raw picture model)
sheet_part w k (change c) = rw k (record { answer = refl; sheet = refl; counted = k })
sheet_part w k back = rw k (record { answer = refl; sheet = refl; counted = k })
sheet_part w k (list buffer) = rw k (record { answer = refl; sheet = refl; counted = k })
sheet_part w k (fit box buffer) = rw k (record { answer = refl; sheet = refl; counted = k })

alone_from : (cs : List Call) (w : Workspace) → is_counted w ≡ true → run_workspace w (map on_sheet cs) ≡ run_sheet w.sheet cs
unfolding run_workspace run_sheet workspace_step
alone_from [] w k = refl
alone_from (c ∷ cs) w k =
    let a = sheet_part w k c in
    ap₂ (λ (x : Answer) (xs : List Answer). x ∷ xs) a.answer
    (alone_from cs (sheet_step_in w c).1 a.counted ∙ ap (λ (s : Sheet). run_sheet s cs) a.sheet)

pub sheet_alone : SheetAlone
unfolding without_names
sheet_alone calls = alone_from calls fresh_workspace refl

pub sheets_own_calls : SheetsOwnCalls
unfolding journal_step_in journal_sheet
sheets_own_calls calls c = record {
  answers = answers_in calls (on_sheet c);
  next_journal = ap (λ (w : WorkspaceJournal). w.journal) (after_snoc empty_in calls (on_sheet c));
}

-- ---- what a sheet's calls alone lead to
record Reached (j : Journal) : Type 0 where
  by_calls : List Call
  reaches : after by_calls ≡ j

step_reached : (j : Journal) (c : Call) → Reached j → Reached (journal_step j c).1
unfolding journal_after
step_reached j c r = record {
  by_calls = r.by_calls ++ c ∷ [];
  reaches = after_append empty r.by_calls (c ∷ []) ∙ ap (λ (k : Journal). (journal_step k c).1) r.reaches;
}

-- the journal of a load with any of the kept edits
abbrev RowsReached : Focus → List NamedEdits → Type 0
RowsReached f [] = Unit
RowsReached f (k ∷ ks) = Reached (holds f k.edits) × RowsReached f ks

abbrev NamesReached : Journal → List NamedEdits → Type 0
NamesReached empty ks = Unit
NamesReached (holds f standing) ks = RowsReached f ks

abbrev AllReached : WorkspaceJournal → Type 0
AllReached w = Reached w.journal × NamesReached w.journal w.names

-- ---- a call of the sheet leaves the names what they are, or clears them
ended_names : (o : Option ℕ) (f : Focus) (row more : List Change) (ks : List NamedEdits) → RowsReached f ks
    → NamesReached (ended o (holds f row) (holds f more)).1 ks
ended_names None f row more ks r = r
ended_names (Some n) f row more ks r = r

load_names : (j : Journal) (o : Outcome Focus) (ks : List NamedEdits) → NamesReached j ks
    → NamesReached (journal_load j o).1 (cond (is_accepted (journal_load j o).0.outcome) [] ks)
unfolding journal_load
load_names j (refused n) ks r = r
load_names j (accepted f) ks r = tt

sheet_names : (j : Journal) (ks : List NamedEdits) (c : Call) → NamesReached j ks
    → NamesReached (journal_step j c).1 (names_after c (journal_step j c).0 ks)
unfolding journal_step journal_change journal_back
sheet_names j ks (load block raw picture model) r = load_names j (focus_of block raw picture model) ks r
sheet_names empty ks (change c) r = tt
sheet_names (holds f row) ks (change c) r = ended_names (change_refusal f row c) f row _ ks r
sheet_names empty ks back r = tt
sheet_names (holds f row) ks back r = ended_names (back_refusal row) f row _ ks r
sheet_names j ks (list b) r = r
sheet_names j ks (fit box b) r = r

-- ---- keep and return
keep_rows : (f : Focus) (name : List ℕ) (row : List Change) (ks : List NamedEdits) → Reached (holds f row) → RowsReached f ks
    → RowsReached f (keep_under name row ks)
unfolding keep_under
keep_rows f name row [] q r = (q, tt)
keep_rows f name row (k ∷ ks) q r = by (keep_rows f name row ks q r.1) (same k.name name)
  where
    by : RowsReached f (keep_under name row ks) → (b : Bool)
        → RowsReached f (cond b (record { name = name; edits = row } ∷ ks) (k ∷ keep_under name row ks))
    by s true = (q, r.1)
    by s false = (r.0, s)

keep_reached : (j : Journal) (ks : List NamedEdits) (name : List ℕ) → AllReached (with j ks) → AllReached (journal_keep j ks name).1
unfolding journal_keep keep_refusal
keep_reached empty ks name r = r
keep_reached (holds f row) ks name r = by (keep_refusal name ks)
  where
    by : (o : Option ℕ) → AllReached (ended o (with (holds f row) ks) (with (holds f row) (keep_under name row ks))).1
    by None = (r.0, keep_rows f name row ks r.0 r.1)
    by (Some n) = r

abbrev IfReached : Focus → Option (List Change) → Type 0
IfReached f None = Unit
IfReached f (Some edits) = Reached (holds f edits)

row_reached : (f : Focus) (name : List ℕ) (ks : List NamedEdits) → RowsReached f ks → IfReached f (kept_under name ks)
unfolding kept_under
row_reached f name [] r = tt
row_reached f name (k ∷ ks) r = by (row_reached f name ks r.1) (same k.name name)
  where
    by : IfReached f (kept_under name ks) → (b : Bool) → IfReached f (cond b (Some k.edits) (kept_under name ks))
    by s true = r.0
    by s false = s

return_reached : (j : Journal) (ks : List NamedEdits) (name : List ℕ) → AllReached (with j ks) → AllReached (journal_return j ks name).1
unfolding journal_return
return_reached empty ks name r = r
return_reached (holds f row) ks name r = by (is_bad_name name) (kept_under name ks) (row_reached f name ks r.1)
  where
    by : (a : Bool) (o : Option (List Change)) → IfReached f o
        → AllReached (cond a (no 16 [], with (holds f row) ks) (returned o f row ks)).1
    by true o q = r
    by false None q = r
    by false (Some edits) q = (q, r.1)

-- ---- any call, any list of calls
one_call : (w : WorkspaceJournal) (c : WorkspaceCall) → AllReached w → AllReached (journal_step_in w c).1
unfolding journal_step_in journal_sheet
one_call w (on_sheet c) r = (step_reached w.journal c r.0, sheet_names w.journal w.names c r.1)
one_call w (keep name) r = keep_reached w.journal w.names name r
one_call w (return name) r = return_reached w.journal w.names name r

all_reached : (cs : List WorkspaceCall) (w : WorkspaceJournal) → AllReached w → AllReached (journal_after_in w cs)
unfolding journal_after_in
all_reached [] w r = r
all_reached (c ∷ cs) w r = all_reached cs (journal_step_in w c).1 (one_call w c r)

none_yet : AllReached empty_in
unfolding journal_after
none_yet = (record { by_calls = []; reaches = refl }, tt)

pub as_some_sheet : AsSomeSheet
as_some_sheet calls =
    let r = (all_reached calls empty_in none_yet).0 in
    record {
      alone = r.by_calls;
      same_journal = r.reaches;
      same_answers = λ c.
          (sheets_own_calls calls c).answers
          ∙ ap (λ (j : Journal). (journal_step j c).0) (sym r.reaches)
          ∙ sym (answers r.by_calls c);
    }

pub primary_is_listed_in : PrimaryIsListedIn
primary_is_listed_in calls f standing e =
    let s = as_some_sheet calls in
    primary_is_listed s.alone f standing (s.same_journal ∙ e)

pub lists_exactly_in : ListsExactlyIn
lists_exactly_in calls f standing e buffer l =
    let s = as_some_sheet calls in
    s.same_answers (list buffer) ∙ lists_exactly s.alone f standing (s.same_journal ∙ e) buffer l
