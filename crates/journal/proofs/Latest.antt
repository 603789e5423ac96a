-- Keeps and returns. After every list of calls what the journal keeps under a name is what stood at the latest accepted keep under it since
-- the last accepted load, of the same load (`KeptAt`): by induction over the list, call by call. A keep leaves the sheet's journal as it is.
-- Assumes nothing.
use Rattle.std.specs.Prelude.{Option, Some, None}
use Prim.Native.Nat.{ℕ}
use mathlib.Core.Bool.{Bool, true, false, ◌&&◌, cond}
use mathlib.Core.List.{List, [], ◌∷◌, ◌++◌, append-nil}
use mathlib.Core.Logic.{◌↔◌}
use mathlib.Core.Path.{◌≡◌, refl, sym, ap, ◌∙◌}
use native.Mathlib.Omega.{arith}
use lib.Seq.{append_snoc}
use Rattle.numbers.specs.Bytes.{same}
use Rattle.reading.specs.Outcome.{Outcome, refused, accepted, is_accepted}
use Rattle.placing.specs.Focus.{focus_of}
use Rattle.placing.specs.Load.{Focus}
use Rattle.workspace.specs.Names.{is_bad_name}
use Rattle.journal.specs.Journal.{Change, Journal, empty, holds, Answer, no, ok, ended, change_refusal, back_refusal, journal_load, journal_change, journal_back}
use Rattle.journal.specs.Calls.{Call, load, change, back, list, fit, is_load, journal_step}
use Rattle.journal.specs.WorkspaceJournal.{NamedEdits, WorkspaceJournal, with, empty_in, kept_under, keep_under, is_ninth, WorkspaceCall, on_sheet, keep, return, names_after, journal_sheet, keep_refusal, journal_keep, returned, journal_return, journal_step_in, journal_after_in}
use Rattle.journal.specs.WorkspaceClaim.{after_in, latest_by, latest_from, latest_keep, ReturnsToLatest, NoKeepNoReturn, KeepIsNoEdit, NamesAreKept}
use Rattle.journal.proofs.KeptNames.{same_true, kept_after}
use Rattle.journal.proofs.WorkspaceAgrees.{answers_in, after_snoc}

-- ---- the latest keep, beside what is kept
-- of a name: the calls before its latest keep, the edits kept under it, and what the journal holds
abbrev KeptAt : List ℕ → Option (List WorkspaceCall) → Option (List Change) → Journal → Type 0
KeptAt name None None j = Unit
KeptAt name None (Some edits) j = ⊥
KeptAt name (Some before) None j = ⊥
KeptAt name (Some before) (Some edits) empty = ⊥
KeptAt name (Some before) (Some edits) (holds f standing) = ((after_in before).journal ≡ holds f edits) × (is_bad_name name ≡ false)

-- it does not matter which edits stand now
other_edits : (name : List ℕ) (l : Option (List WorkspaceCall)) (o : Option (List Change)) (f : Focus) (standing more : List Change)
    → KeptAt name l o (holds f standing) → KeptAt name l o (holds f more)
other_edits name None None f standing more k = tt
other_edits name (Some before) (Some edits) f standing more k = k
other_edits name None (Some edits) f standing more k = k
other_edits name (Some before) None f standing more k = k

-- ---- one call of the sheet
module _ (name : List ℕ) (l : Option (List WorkspaceCall)) where
  load_keeps : (j : Journal) (ks : List NamedEdits) (o : Outcome Focus) → KeptAt name l (kept_under name ks) j
      → KeptAt name (cond (is_accepted (journal_load j o).0.outcome) None l)
      (kept_under name (cond (is_accepted (journal_load j o).0.outcome) [] ks)) (journal_load j o).1
  unfolding journal_load kept_under
  load_keeps j ks (refused n) k = k
  load_keeps j ks (accepted f) k = tt

  ended_keeps : (o : Option (List Change)) (n : Option ℕ) (f : Focus) (standing more : List Change) → KeptAt name l o (holds f standing)
      → KeptAt name l o (ended n (holds f standing) (holds f more)).1
  ended_keeps o None f standing more k = other_edits name l o f standing more k
  ended_keeps o (Some n) f standing more k = k

  sheet_keeps : (j : Journal) (ks : List NamedEdits) (c : Call) → KeptAt name l (kept_under name ks) j
      → KeptAt name (cond (is_load c && is_accepted (journal_step j c).0.outcome) None l)
      (kept_under name (names_after c (journal_step j c).0 ks)) (journal_step j c).1
  unfolding journal_step journal_change journal_back
  sheet_keeps j ks (load block raw picture model) k = load_keeps j ks (focus_of block raw picture model) k
  sheet_keeps empty ks (change c) k = k
  sheet_keeps (holds f row) ks (change c) k = ended_keeps (kept_under name ks) (change_refusal f row c) f row _ k
  sheet_keeps empty ks back k = k
  sheet_keeps (holds f row) ks back k = ended_keeps (kept_under name ks) (back_refusal row) f row _ k
  sheet_keeps j ks (list b) k = k
  sheet_keeps j ks (fit box b) k = k

  -- ---- keep and return
  module _ (before : List WorkspaceCall) (m : List ℕ) where
    keep_keeps : (j : Journal) (ks : List NamedEdits) → (after_in before).journal ≡ j → KeptAt name l (kept_under name ks) j
        → KeptAt name (cond (is_accepted (journal_keep j ks m).0.outcome && same m name) (Some before) l)
        (kept_under name (journal_keep j ks m).1.names) (journal_keep j ks m).1.journal
    unfolding journal_keep keep_refusal
    keep_keeps empty ks e k = k
    keep_keeps (holds f row) ks e k = by (is_bad_name m) refl (is_ninth m ks)
      where
        renamed : (b : Bool) → same m name ≡ b → is_bad_name m ≡ false
            → KeptAt name (cond b (Some before) l) (cond b (Some row) (kept_under name ks)) (holds f row)
        renamed true g d = (e, ap is_bad_name (sym (same_true m name g)) ∙ d)
        renamed false g d = k

        by : (a : Bool) → is_bad_name m ≡ a → (b : Bool) →
            let o : Answer × WorkspaceJournal = ended (cond a (Some 16) (cond b (Some 17) None)) (with (holds f row) ks) (with (holds f row) (keep_under m row ks)) in
            KeptAt name (cond (is_accepted o.0.outcome && same m name) (Some before) l) (kept_under name o.1.names) o.1.journal
        by true d b = k
        by false d true = k
        by false d false = rw (kept_after name m row ks) (renamed (same m name) refl d)

  return_keeps : (m : List ℕ) (j : Journal) (ks : List NamedEdits) → KeptAt name l (kept_under name ks) j
      → KeptAt name l (kept_under name (journal_return j ks m).1.names) (journal_return j ks m).1.journal
  unfolding journal_return
  return_keeps m empty ks k = k
  return_keeps m (holds f row) ks k = by (is_bad_name m) (kept_under m ks)
    where
      by : (a : Bool) (o : Option (List Change)) →
          let r : Answer × WorkspaceJournal = cond a (no 16 [], with (holds f row) ks) (returned o f row ks) in
          KeptAt name l (kept_under name r.1.names) r.1.journal
      by true o = k
      by false None = k
      by false (Some edits) = other_edits name l (kept_under name ks) f row edits k

-- ---- any call, any list of calls
abbrev KeptAfter : List ℕ → Option (List WorkspaceCall) → WorkspaceJournal → Type 0
KeptAfter name l w = KeptAt name l (kept_under name w.names) w.journal

one_call : (name : List ℕ) (before : List WorkspaceCall) (l : Option (List WorkspaceCall)) (c : WorkspaceCall)
    → KeptAfter name l (after_in before) → KeptAfter name (latest_by name before l c) (journal_step_in (after_in before) c).1
unfolding journal_step_in journal_sheet
one_call name before l (on_sheet c) k =
    rw (answers_in before (on_sheet c)) (sheet_keeps name l (after_in before).journal (after_in before).names c k)
one_call name before l (keep m) k =
    rw (answers_in before (keep m)) (keep_keeps name l before m (after_in before).journal (after_in before).names refl k)
one_call name before l (return m) k = return_keeps name l m (after_in before).journal (after_in before).names k

latest_from_lem : (name : List ℕ) (cs before : List WorkspaceCall) (l : Option (List WorkspaceCall))
    → KeptAfter name l (after_in before) → KeptAfter name (latest_from name before l cs) (after_in (before ++ cs))
unfolding latest_from
latest_from_lem name [] before l k = rw (append-nil before) k
latest_from_lem name (c ∷ cs) before l k =
    let next : KeptAfter name (latest_by name before l c) (after_in (before ++ c ∷ [])) = rw (after_snoc empty_in before c) (one_call name before l c k) in
    rw (append_snoc before c cs) at (latest_from_lem name cs (before ++ c ∷ []) (latest_by name before l c) next)

latest_is : (name : List ℕ) (calls : List WorkspaceCall) → KeptAfter name (latest_keep name calls) (after_in calls)
unfolding journal_after_in kept_under
latest_is name calls = latest_from_lem name calls [] None tt

-- a name is kept if it has such a keep, and only then
none_both : (name : List ℕ) (l : Option (List WorkspaceCall)) (o : Option (List Change)) (j : Journal) → KeptAt name l o j
    → (o ≡ None) ↔ (l ≡ None)
none_both name None None j k = (λ e. refl, λ e. refl)
none_both name None (Some edits) j k = absurd k
none_both name (Some before) None j k = absurd k
none_both name (Some before) (Some edits) j k = (
  λ e. let z : ◌≡◌ {A = ℕ} 0 1 = cc in absurd (omega arith),
  λ e. let z : ◌≡◌ {A = ℕ} 0 1 = cc in absurd (omega arith),
)

pub names_are_kept : NamesAreKept
names_are_kept calls name =
    none_both name (latest_keep name calls) (kept_under name (after_in calls).names) (after_in calls).journal (latest_is name calls)

-- ---- returns
-- a call of the sheet is answered by what the journal holds, whatever names it has
by_journal : (v w : WorkspaceJournal) (c : Call) → v.journal ≡ w.journal → (journal_step_in v (on_sheet c)).0 ≡ (journal_step_in w (on_sheet c)).0
unfolding journal_step_in journal_sheet
by_journal v w c e = ap (λ (j : Journal). (journal_step j c).0) e

-- to what is kept
came_back : (before : List WorkspaceCall) (name : List ℕ) (ks : List NamedEdits) (j : Journal) (o : Option (List Change)) → kept_under name ks ≡ o
    → KeptAt name (Some before) o j
    → ((journal_return j ks name).0 ≡ ok [] []) × ((journal_return j ks name).1.journal ≡ (after_in before).journal)
unfolding journal_return
came_back before name ks (holds f standing) (Some edits) g k = rw (k.1, g) (refl, sym k.0)
came_back before name ks (holds f standing) None g k = absurd k
came_back before name ks empty (Some edits) g k = absurd k
came_back before name ks empty None g k = absurd k

pub returns_to_latest : ReturnsToLatest
unfolding journal_step_in
returns_to_latest calls before name e =
    let w = after_in calls in
    let k = came_back before name w.names w.journal (kept_under name w.names) refl (rw e at (latest_is name calls)) in
    let stands : (after_in (calls ++ return name ∷ [])).journal ≡ (after_in before).journal =
    ap (λ (v : WorkspaceJournal). v.journal) (after_snoc empty_in calls (return name)) ∙ k.1 in
    record {
      accepts = answers_in calls (return name) ∙ k.0;
      stands = stands;
      answers = λ c.
          answers_in (calls ++ return name ∷ []) (on_sheet c)
          ∙ by_journal (after_in (calls ++ return name ∷ [])) (after_in before) c stands
          ∙ sym (answers_in before (on_sheet c));
    }

-- to nothing
no_keep : (name : List ℕ) (ks : List NamedEdits) (j : Journal) (o : Option (List Change)) → kept_under name ks ≡ o → KeptAt name None o j
    → is_accepted (journal_return j ks name).0.outcome ≡ false
unfolding journal_return
no_keep name ks j (Some edits) g k = absurd k
no_keep name ks empty None g k = refl
no_keep name ks (holds f standing) None g k = rw g (by (is_bad_name name))
  where
    by : (b : Bool) → is_accepted (cond {A = Answer × WorkspaceJournal} b (no 16 [], with (holds f standing) ks) (no 18 [], with (holds f standing) ks)).0.outcome ≡ false
    by true = refl
    by false = refl

pub no_keep_no_return : NoKeepNoReturn
unfolding journal_step_in
no_keep_no_return calls name e =
    let w = after_in calls in
    rw (answers_in calls (return name))
    (no_keep name w.names w.journal (kept_under name w.names) refl (rw e at (latest_is name calls)))

-- ---- keeps
pub keep_journal : (j : Journal) (ks : List NamedEdits) (name : List ℕ) → (journal_keep j ks name).1.journal ≡ j
unfolding journal_keep
keep_journal empty ks name = refl
keep_journal (holds f row) ks name = by (keep_refusal name ks)
  where
    by : (o : Option ℕ) → (ended o (with (holds f row) ks) (with (holds f row) (keep_under name row ks))).1.journal ≡ holds f row
    by None = refl
    by (Some n) = refl

pub keep_is_no_edit : KeepIsNoEdit
unfolding journal_step_in
keep_is_no_edit calls name c =
    let w = after_in calls in
    let stays : (after_in (calls ++ keep name ∷ [])).journal ≡ w.journal =
    ap (λ (v : WorkspaceJournal). v.journal) (after_snoc empty_in calls (keep name)) ∙ keep_journal w.journal w.names name in
    answers_in (calls ++ keep name ∷ []) (on_sheet c)
    ∙ by_journal (after_in (calls ++ keep name ∷ [])) w c stays
    ∙ sym (answers_in calls (on_sheet c))
