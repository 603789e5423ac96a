-- On every workspace, also one made by hand: a refused call leaves it, its names and the buffer as they were, by the cases of each
-- definition's tests; a load goes on as the journal says, by the claim; and one whose count passes its places is empty to every other
-- call. Assumes nothing.
use Prim.Native.Nat.{ℕ}
use mathlib.Core.Bool.{Bool, true, false, ◌&&◌, cond, false≢true}
use mathlib.Core.List.{List, [], ◌∷◌}
use mathlib.Core.Logic.{◌⊎◌, inl, inr}
use mathlib.Core.Path.{◌≡◌, refl, sym, ap, ◌∙◌}
use lib.Dec.{ltb}
use borrow.Author.Tests.{lt-leb}
use Rattle.laws.proofs.Tests.{by_bool}
use Rattle.reading.specs.Outcome.{Outcome, refused, accepted, is_accepted}
use Rattle.placing.specs.Focus.{focus_of}
use Rattle.placing.specs.Load.{Focus}
use Rattle.sheet.specs.Sheet.{leaves, kept_by, usable}
use Rattle.workspace.specs.declared.Workspace.{Workspace}
use Rattle.workspace.specs.Names.{is_bad_name}
use Rattle.workspace.specs.Workspace.{fresh_workspace, load_in, with_sheet, is_counted, edit_in, list_outcome_in, list_buffer_in, fit_outcome_in, fit_buffer_in, if_named, place_of, keep_at, keep_in, return_at, return_in}
use Rattle.journal.specs.Journal.{Answer, journal_load}
use Rattle.journal.specs.Calls.{Call, load, change, back, list, fit, lent, journal_step}
use Rattle.journal.specs.SheetCalls.{after_edit, sheet_step}
use Rattle.journal.specs.WorkspaceJournal.{WorkspaceCall, on_sheet, keep, return, lent_in, journal_sheet, journal_step_in, run_journal_in}
use Rattle.journal.specs.WorkspaceCalls.{sheet_step_in, workspace_step, run_workspace}
use Rattle.journal.specs.WorkspaceClaim.{RefusedKeepsIn, LoadOnAnyIn, UncountedIsEmpty}
use Rattle.journal.proofs.Kept.{refused_keeps}
use Rattle.journal.proofs.WorkspaceAgrees.{workspace_claim}

-- ---- a refused call
-- a call that ends so on the workspace w, with the buffer b, is accepted or keeps both
abbrev Keeps : Answer × Workspace → Workspace → List ℕ → Type 0
Keeps r w b = (is_accepted r.0.outcome ≡ true) ⊎ ((r.1 ≡ w) × (r.0.buffer ≡ b))

keeps_load : (w : Workspace) (o : Outcome Focus) → Keeps (after_edit (load_in w o)) w []
unfolding load_in
keeps_load w (refused n) = inr (refl, refl)
keeps_load w (accepted f) = inl refl

-- what the sheet keeps, the workspace keeps
keeps_through : (w : Workspace) (c : Call) → Keeps ((sheet_step w.sheet c).0, with_sheet w (sheet_step w.sheet c).1) w (lent c)
keeps_through w c = by (sheet_step w.sheet c).0.outcome refl
  where
    by : (o : Outcome (List ℕ)) → (sheet_step w.sheet c).0.outcome ≡ o
        → Keeps ((sheet_step w.sheet c).0, with_sheet w (sheet_step w.sheet c).1) w (lent c)
    by (refused n) e = let k = refused_keeps w.sheet c n e in inr (ap (with_sheet w) k.0, k.1)
    by (accepted given) e = inl (ap is_accepted e)

keeps_sheet : (w : Workspace) (c : Call) → (is_counted w ≡ true) ⊎ (is_counted w ≡ false) → Keeps (sheet_step_in w c) w (lent c)
unfolding sheet_step_in sheet_step edit_in list_outcome_in list_buffer_in fit_outcome_in fit_buffer_in
keeps_sheet w (load block raw picture model) k = keeps_load w (focus_of block raw picture model)
keeps_sheet w (change c) (inl e) = rw e (keeps_through w (change c))
keeps_sheet w (change c) (inr e) = rw e (inr (refl, refl))
keeps_sheet w back (inl e) = rw e (keeps_through w back)
keeps_sheet w back (inr e) = rw e (inr (refl, refl))
keeps_sheet w (list buffer) (inl e) = rw e (keeps_through w (list buffer))
keeps_sheet w (list buffer) (inr e) = rw e (inr (refl, refl))
keeps_sheet w (fit box buffer) (inl e) = rw e (keeps_through w (fit box buffer))
keeps_sheet w (fit box buffer) (inr e) = rw e (inr (refl, refl))

named_keeps : (w : Workspace) (name : List ℕ) (x : Outcome (List ℕ) × Workspace) → Keeps (after_edit x) w [] → Keeps (after_edit (if_named w name x)) w []
unfolding if_named
named_keeps w name x k = by (is_counted w && usable w.sheet) (is_bad_name name)
  where
    by : (a b : Bool) → Keeps (after_edit (cond a (cond b (kept_by 16 w) x) (kept_by 7 w))) w []
    by true true = inr (refl, refl)
    by true false = k
    by false b = inr (refl, refl)

chosen_keeps : (w v : Workspace) (n : ℕ) (b : Bool) → Keeps (after_edit (cond b (leaves v) (kept_by n w))) w []
chosen_keeps w v n true = inl refl
chosen_keeps w v n false = inr (refl, refl)

steps : (w : Workspace) (c : WorkspaceCall) → Keeps (workspace_step w c) w (lent_in c)
unfolding workspace_step keep_in return_in
steps w (on_sheet c) = keeps_sheet w c (by_bool (is_counted w))
steps w (keep name) = named_keeps w name _ (chosen_keeps w (keep_at w name (place_of w name)) 17 (ltb (place_of w name) 8))
steps w (return name) = named_keeps w name _ (chosen_keeps w (return_at w (place_of w name)) 18 (ltb (place_of w name) w.count))

pub refused_keeps_in : RefusedKeepsIn
refused_keeps_in w c n e = by (steps w c)
  where
    by : Keeps (workspace_step w c) w (lent_in c) → ((workspace_step w c).1 ≡ w) × ((workspace_step w c).0.buffer ≡ lent_in c)
    by (inl a) = absurd (false≢true (rw e at a))
    by (inr k) = k

-- ---- made by hand
load_same : (v w : Workspace) (o : Outcome Focus) (f : Focus) → o ≡ accepted f → after_edit (load_in v o) ≡ after_edit (load_in w o)
unfolding load_in
load_same v w o f e = rw e

pub load_on_any_in : LoadOnAnyIn
unfolding run_workspace run_journal_in workspace_step sheet_step_in journal_step_in journal_sheet journal_step journal_load
load_on_any_in w block raw picture model f e calls =
    let o = focus_of block raw picture model in
    ap (λ (r : Answer × Workspace). r.0 ∷ run_workspace r.1 calls) (load_same w fresh_workspace o f e)
    ∙ workspace_claim (on_sheet (load block raw picture model) ∷ calls)
    ∙ rw e

pub uncounted_is_empty : UncountedIsEmpty
unfolding workspace_step sheet_step_in edit_in list_outcome_in list_buffer_in fit_outcome_in fit_buffer_in keep_in return_in if_named
uncounted_is_empty w (on_sheet (load block raw picture model)) h e = absurd (false≢true (sym e))
uncounted_is_empty w (on_sheet (change c)) h e = rw (lt-leb w.count 8 h)
uncounted_is_empty w (on_sheet back) h e = rw (lt-leb w.count 8 h)
uncounted_is_empty w (on_sheet (list buffer)) h e = rw (lt-leb w.count 8 h)
uncounted_is_empty w (on_sheet (fit box buffer)) h e = rw (lt-leb w.count 8 h)
uncounted_is_empty w (keep name) h e = rw (lt-leb w.count 8 h)
uncounted_is_empty w (return name) h e = rw (lt-leb w.count 8 h)
