-- 02, 2026-03 "Named stands": "The book holds the names too". The journal of a workspace is that of its sheet with the kept names. It is
-- fed the calls alone, and of the workspace it knows nothing: no places and no counts. The two share when a name is empty or too long, and
-- when two names are the same.
use Rattle.std.specs.Prelude.{Option, Some, None}
use Rattle.std.specs.Prelude.{ℕ, Bool, true, false, ◌&&◌, not, cond, List, [], ◌∷◌, leb, length}
use Rattle.numbers.specs.Bytes.{same}
use Rattle.reading.specs.Outcome.{is_accepted}
use Rattle.placing.specs.Load.{Focus}
use Rattle.workspace.specs.Names.{is_bad_name}
use Rattle.journal.specs.Journal.{Change, Journal, empty, holds, Answer, no, ok, ended}
use Rattle.journal.specs.Calls.{Call, lent, is_load, journal_step}

-- a name, and the edits that stood at the latest accepted keep under it
pub record NamedEdits : Type 0 where
  pub name : List ℕ
  pub edits : List Change

pub record WorkspaceJournal : Type 0 where
  pub journal : Journal
  pub names : List NamedEdits

abbrev pub with : Journal → List NamedEdits → WorkspaceJournal
with j names = record { journal = j; names = names }

-- nothing is loaded and nothing kept
abbrev pub empty_in : WorkspaceJournal
empty_in = with empty []

-- ---- names, which are bytes and compared exactly
-- the edits kept under a name, if there are any
unfoldable pub kept_under : List ℕ → List NamedEdits → Option (List Change)
kept_under name [] = None
kept_under name (k ∷ ks) = cond (same k.name name) (Some k.edits) (kept_under name ks)

-- "Keep the standing edits under a name ..; a name kept again is replaced"
unfoldable pub keep_under : List ℕ → List Change → List NamedEdits → List NamedEdits
keep_under name edits [] = record { name = name; edits = edits } ∷ []
keep_under name edits (k ∷ ks) =
    cond (same k.name name) (record { name = name; edits = edits } ∷ ks) (k ∷ keep_under name edits ks)

abbrev pub is_kept : Option (List Change) → Bool
is_kept None = false
is_kept (Some edits) = true

-- 17, "a ninth name": eight are kept, and this is none of them
unfoldable pub is_ninth : List ℕ → List NamedEdits → Bool
is_ninth name ks = not (is_kept (kept_under name ks)) && leb 8 (length ks)

-- ---- how calls end
-- "A list of calls may now hold keeps and returns."
pub data WorkspaceCall : Type 0 where
  on_sheet : Call → WorkspaceCall
  keep : List ℕ → WorkspaceCall
  return : List ℕ → WorkspaceCall

-- what the buffer that a call is lent holds
abbrev pub lent_in : WorkspaceCall → List ℕ
lent_in (on_sheet c) = lent c
lent_in (keep name) = []
lent_in (return name) = []

-- "an accepted load clears all names"; no other call of the sheet changes them
abbrev pub names_after : Call → Answer → List NamedEdits → List NamedEdits
names_after c a ks = cond (is_load c && is_accepted a.outcome) [] ks

-- a call of the sheet is judged by the sheet's journal
unfoldable pub journal_sheet : WorkspaceJournal → Call → Answer × WorkspaceJournal
journal_sheet w c = (
  (journal_step w.journal c).0,
  with (journal_step w.journal c).1 (names_after c (journal_step w.journal c).0 w.names),
)

-- "Errors: 16, name empty or too long; 17, a ninth name; 18, no such name; all after 7, in that order."
unfoldable pub keep_refusal : List ℕ → List NamedEdits → Option ℕ
keep_refusal name ks = cond (is_bad_name name) (Some 16) (cond (is_ninth name ks) (Some 17) None)

-- "Keep the standing edits under a name": they stand on as they are
unfoldable pub journal_keep : Journal → List NamedEdits → List ℕ → Answer × WorkspaceJournal
journal_keep empty ks name = (no 7 [], with empty ks)
journal_keep (holds load standing) ks name =
    ended (keep_refusal name ks) (with (holds load standing) ks) (with (holds load standing) (keep_under name standing ks))

-- "Coming back makes the kept edits the standing ones"
abbrev pub returned : Option (List Change) → Focus → List Change → List NamedEdits → Answer × WorkspaceJournal
returned None load standing ks = (no 18 [], with (holds load standing) ks)
returned (Some edits) load standing ks = (ok [] [], with (holds load edits) ks)

unfoldable pub journal_return : Journal → List NamedEdits → List ℕ → Answer × WorkspaceJournal
journal_return empty ks name = (no 7 [], with empty ks)
journal_return (holds load standing) ks name =
    cond (is_bad_name name) (no 16 [], with (holds load standing) ks) (returned (kept_under name ks) load standing ks)

-- ---- lists of calls
-- how a call ends, and the journal after it
unfoldable pub journal_step_in : WorkspaceJournal → WorkspaceCall → Answer × WorkspaceJournal
journal_step_in w (on_sheet c) = journal_sheet w c
journal_step_in w (keep name) = journal_keep w.journal w.names name
journal_step_in w (return name) = journal_return w.journal w.names name

-- the answers to a list of calls, and the journal after it
unfoldable pub run_journal_in : WorkspaceJournal → List WorkspaceCall → List Answer
run_journal_in w [] = []
run_journal_in w (c ∷ cs) = (journal_step_in w c).0 ∷ run_journal_in (journal_step_in w c).1 cs

unfoldable pub journal_after_in : WorkspaceJournal → List WorkspaceCall → WorkspaceJournal
journal_after_in w [] = w
journal_after_in w (c ∷ cs) = journal_after_in (journal_step_in w c).1 cs
