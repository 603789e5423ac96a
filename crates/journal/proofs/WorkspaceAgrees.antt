-- The claim over a workspace's calls. A workspace after calls stands for a journal with names (`journal_in`); its sheet is `Good`, and its
-- `Places` are there, its count in range. What the sheet answers is proofs/Claim.antt's; load, keep and return add the names. Then by
-- induction over the list. Assumes nothing.
use Rattle.std.specs.Option.{is_some}
use Rattle.std.specs.Prelude.{Option, Some, None}
use Prim.Native.Nat.{ℕ, ◌+◌, ◌<◌, ◌≤◌}
use mathlib.Core.Bool.{Bool, true, false, ◌&&◌, not, cond, false≢true}
use mathlib.Core.List.{List, [], ◌∷◌, ◌++◌, map}
use mathlib.Core.Logic.{◌⊎◌, inl, inr}
use mathlib.Core.Path.{◌≡◌, refl, sym, ap, ap₂, ◌∙◌}
use lib.Dec.{leb, ltb}
use lib.ListN.{get_or, length, take, set, length-map, length-set}
use lib.Seq.{length-take-le, take-set-lt, take-suc-set, get_or-take}
use native.Mathlib.Omega.{arith}
use native.Mathlib.Numerals.{add-one}
use borrow.Author.Tests.{lt-ltb, le-ltb, le-leb, lt-leb}
use Rattle.laws.proofs.Tests.{by_order}
use Rattle.reading.specs.Outcome.{Outcome, refused, accepted}
use Rattle.placing.specs.Focus.{focus_of}
use Rattle.placing.specs.Load.{Focus}
use Rattle.placing.specs.Sound.{Sound}
use Rattle.placing.proofs.Sound.{focus_sound}
use Rattle.sheet.specs.declared.Sheet.{Sheet}
use Rattle.sheet.specs.Sheet.{leaves, kept_by, fresh_sheet, loaded_sheet, load_sheet}
use Rattle.workspace.specs.declared.Checkpoint.{Checkpoint}
use Rattle.workspace.specs.declared.Workspace.{Workspace}
use Rattle.workspace.specs.Names.{is_bad_name}
use Rattle.workspace.specs.Workspace.{no_checkpoint, without_names, fresh_workspace, load_in, with_sheet, is_counted, usable_in, edit_in, list_outcome_in, list_buffer_in, fit_outcome_in, fit_buffer_in, if_named, place_of, checkpoint_of, keep_at, keep_in, return_at, return_in}
use Rattle.workspace.proofs.Tests.{name_fits}
use Rattle.journal.specs.Journal.{Change, Journal, holds, Answer, no, ok, ended, journal_load}
use Rattle.journal.specs.Calls.{Call, load, change, back, list, fit, is_load, journal_step}
use Rattle.journal.specs.SheetCalls.{after_edit, sheet_step}
use Rattle.journal.specs.WorkspaceJournal.{NamedEdits, WorkspaceJournal, with, empty_in, kept_under, keep_under, is_kept, is_ninth, WorkspaceCall, on_sheet, keep, return, names_after, journal_sheet, keep_refusal, journal_keep, returned, journal_return, journal_step_in, run_journal_in, journal_after_in}
use Rattle.journal.specs.WorkspaceCalls.{sheet_step_in, workspace_step, run_workspace, workspace_after}
use Rattle.journal.specs.WorkspaceClaim.{WorkspaceClaim, after_in, answer_in, EightAtMost}
use Rattle.journal.proofs.Claim.{load_of, row_of, journal_of, Held, Good, blank, held, usable_held, usable_blank, journal_held, journal_blank, loads, step}
use Rattle.journal.proofs.CheckpointPlaces.{kept_of, Fine, AllFine, fine_set, fine_take, fine_at, fresh_fine, reads_back, Found, there, absent, find}

-- ---- the journal that a workspace stands for
abbrev pub in_use : Workspace → List Checkpoint
in_use w = take w.count w.checkpoints

abbrev pub names_of : Workspace → List NamedEdits
names_of w = map kept_of (in_use w)

abbrev pub journal_in : Workspace → WorkspaceJournal
journal_in w = with (journal_of w.sheet) (names_of w)

-- what holds of a workspace after calls, its sheet apart
pub record Places (w : Workspace) : Type 0 where
  pub counted : w.count ≤ 8
  pub placed : length w.checkpoints ≡ 8
  pub fine : AllFine w.checkpoints

-- how a call ends on a workspace, beside how it ends on a journal
abbrev pub AgreeIn : Answer × Workspace → Answer × WorkspaceJournal → Type 0
AgreeIn r o = (r.0 ≡ o.0) × (journal_in r.1 ≡ o.1) × Good r.1.sheet × Places r.1

counted_in : (w : Workspace) → Places w → is_counted w ≡ true
counted_in w p = le-leb w.count 8 p.counted

usable_held_in : (w : Workspace) → Held w.sheet → Places w → usable_in w ≡ true
usable_held_in w h p = rw (counted_in w p, usable_held w.sheet h)

usable_blank_in : (w : Workspace) → is_some w.sheet.load ≡ false → Places w → usable_in w ≡ false
usable_blank_in w e p = rw (counted_in w p, usable_blank w.sheet e)

-- a refused call
refuses : (w : Workspace) → Good w.sheet → Places w → (n : ℕ) (j : Journal) → journal_of w.sheet ≡ j
    → AgreeIn (after_edit (kept_by n w)) (no n [], with j (names_of w))
refuses w g p n j e = (refl, ap (λ (k : Journal). with k (names_of w)) e, g, p)

in_use_length : (w : Workspace) → Places w → length (in_use w) ≡ w.count
in_use_length w p = length-take-le w.count w.checkpoints (omega (arith, p.counted, p.placed))

-- a name that is kept is no ninth; another is, where eight are kept
module _ (name : List ℕ) (ks : List NamedEdits) where
  kept_no_ninth : (edits : List Change) → kept_under name ks ≡ Some edits → is_ninth name ks ≡ false
  unfolding is_ninth
  kept_no_ninth edits e = ap (λ (o : Option (List Change)). not (is_kept o) && leb 8 (length ks)) e

  new_is_ninth : kept_under name ks ≡ None → is_ninth name ks ≡ leb 8 (length ks)
  unfolding is_ninth
  new_is_ninth e = ap (λ (o : Option (List Change)). not (is_kept o) && leb 8 (length ks)) e

  -- 16 before 17
  bad_first : is_bad_name name ≡ true → keep_refusal name ks ≡ Some 16
  unfolding keep_refusal
  bad_first e = ap (λ (b : Bool). cond b (Some 16) (cond (is_ninth name ks) (Some 17) None)) e

  then_ninth : is_bad_name name ≡ false → keep_refusal name ks ≡ cond (is_ninth name ks) (Some 17) None
  unfolding keep_refusal
  then_ninth e = ap (λ (b : Bool). cond b (Some 16) (cond (is_ninth name ks) (Some 17) None)) e

-- ---- keep and return on a loaded sheet
-- the journal before, and after a keep
abbrev before : Workspace → WorkspaceJournal
before w = with (holds (load_of w.sheet) (row_of w.sheet)) (names_of w)

abbrev after_keep : Workspace → List ℕ → WorkspaceJournal
after_keep w name = with (holds (load_of w.sheet) (row_of w.sheet)) (keep_under name (row_of w.sheet) (names_of w))

module _ (w : Workspace) (h : Held w.sheet) (p : Places w) (name : List ℕ) where
  refuses_held : (n : ℕ) → AgreeIn (after_edit (kept_by n w)) (no n [], before w)
  refuses_held n = refuses w (held h) p n _ (journal_held w.sheet h)

  found_at : Found name (in_use w) (place_of w name)
  found_at = find name (in_use w) (fine_take w.checkpoints w.count p.fine)

  new_name : (kept_of (checkpoint_of w.sheet name)).name ≡ name
  unfolding checkpoint_of
  new_name = reads_back name

  module _ (l : length name ≤ 16) where
    new_fine : Fine (checkpoint_of w.sheet name)
    unfolding checkpoint_of
    new_fine = record { short = l; stands = h.stands; roomy = h.roomy }

    -- the places after a keep
    kept_places : (at count : ℕ) → count ≤ 8
        → Places (record { sheet = w.sheet; checkpoints = set w.checkpoints at (checkpoint_of w.sheet name); count = count })
    kept_places at count c = record {
      counted = c;
      placed = length-set w.checkpoints at _ ∙ p.placed;
      fine = fine_set w.checkpoints at _ p.fine new_fine;
    }

    kept_again : (at : ℕ) → at < w.count
        → map kept_of (set (in_use w) at (checkpoint_of w.sheet name)) ≡ keep_under name (row_of w.sheet) (names_of w)
        → AgreeIn (after_edit (leaves (keep_at w name at))) (ok [] [], after_keep w name)
    unfolding keep_at
    kept_again at a e =
        rw (lt-ltb at w.count a) (
          refl,
          ap₂ with (journal_held w.sheet h) (ap (map kept_of) (take-set-lt w.count w.checkpoints at _ a) ∙ e),
          held h,
          kept_places at w.count p.counted,
        )

    kept_new : (at : ℕ) → at ≡ w.count → at < 8
        → map kept_of (in_use w ++ checkpoint_of w.sheet name ∷ []) ≡ keep_under name (row_of w.sheet) (names_of w)
        → AgreeIn (after_edit (leaves (keep_at w name at))) (ok [] [], after_keep w name)
    unfolding keep_at
    kept_new at c a e =
        rw (le-ltb at w.count (omega (arith, c))) (
          refl,
          ap₂ with (journal_held w.sheet h) (ap (map kept_of) more ∙ e),
          held h,
          kept_places at (at + 1) (omega arith),
        )
      where
        more : take (at + 1) (set w.checkpoints at (checkpoint_of w.sheet name)) ≡ in_use w ++ checkpoint_of w.sheet name ∷ []
        more =
            rw add-one
            (take-suc-set w.checkpoints at (checkpoint_of w.sheet name) (omega (arith, a, p.placed))
            ∙ ap (λ (k : ℕ). take k w.checkpoints ++ checkpoint_of w.sheet name ∷ []) c)

    keep_found : (at : ℕ) → Found name (in_use w) at
        → AgreeIn (after_edit (cond (ltb at 8) (leaves (keep_at w name at)) (kept_by 17 w)))
        (ended (cond (is_ninth name (names_of w)) (Some 17) None) (before w) (after_keep w name))
    unfolding checkpoint_of
    keep_found at (there a r s) =
        let i : at < w.count = omega (arith, a, in_use_length w p) in
        rw (kept_no_ninth name (names_of w) _ r, lt-ltb at 8 (omega (arith, i, p.counted)))
        (kept_again at i (s (checkpoint_of w.sheet name) new_name))
    keep_found at (absent e r s) =
        let c : at ≡ w.count = e ∙ in_use_length w p in
        let long : length (names_of w) ≡ at = length-map (in_use w) kept_of ∙ sym e in
        rw (new_is_ninth name (names_of w) r, long) (by c (by_order at 8))
      where
        by : at ≡ w.count → (at < 8) ⊎ (8 ≤ at)
            → AgreeIn (after_edit (cond (ltb at 8) (leaves (keep_at w name at)) (kept_by 17 w)))
            (ended (cond (leb 8 at) (Some 17) None) (before w) (after_keep w name))
        by c (inl a) =
            rw (lt-ltb at 8 a, lt-leb 8 at a) (kept_new at c a (s (checkpoint_of w.sheet name) new_name))
        by c (inr a) = rw (le-ltb at 8 a, le-leb 8 at a) (refuses_held 17)

  keeps : AgreeIn (after_edit (keep_in w name)) (journal_keep (holds (load_of w.sheet) (row_of w.sheet)) (names_of w) name)
  unfolding keep_in if_named journal_keep
  keeps = rw (usable_held_in w h p) (by (is_bad_name name) refl)
    where
      by : (b : Bool) → is_bad_name name ≡ b
          → AgreeIn (after_edit (cond b (kept_by 16 w) (cond (ltb (place_of w name) 8) (leaves (keep_at w name (place_of w name))) (kept_by 17 w))))
          (ended (keep_refusal name (names_of w)) (before w) (after_keep w name))
      by true e = rw (bad_first name (names_of w) e) (refuses_held 16)
      by false e =
          rw (then_ninth name (names_of w) e)
          (keep_found (name_fits name e) (place_of w name) found_at)

  -- the edits of a place are the standing ones
  comes_back : (at : ℕ) → at < w.count
      → AgreeIn (after_edit (leaves (return_at w at)))
      (ok [] [], with (holds (load_of w.sheet) (kept_of (get_or (in_use w) at no_checkpoint)).edits) (names_of w))
  unfolding return_at
  comes_back at a =
      let q : Checkpoint = get_or w.checkpoints at no_checkpoint in
      let f : Fine q = fine_at w.checkpoints at p.fine (omega (arith, a, p.counted, p.placed)) in (
        refl,
        rw h.loaded
            (ap (λ (z : Checkpoint). with (holds (load_of w.sheet) (kept_of z).edits) (names_of w))
            (sym (get_or-take w.count w.checkpoints at no_checkpoint a))),
        held (record {
          loaded = h.loaded;
          counted = h.counted;
          primed = h.primed;
          stands = f.stands;
          filled = h.filled;
          roomy = f.roomy;
        }),
        record { counted = p.counted; placed = p.placed; fine = p.fine },
      )

  return_found : (at : ℕ) → Found name (in_use w) at
      → AgreeIn (after_edit (cond (ltb at w.count) (leaves (return_at w at)) (kept_by 18 w)))
      (returned (kept_under name (names_of w)) (load_of w.sheet) (row_of w.sheet) (names_of w))
  return_found at (there a r s) =
      let i : at < w.count = omega (arith, a, in_use_length w p) in
      rw (r, lt-ltb at w.count i) (comes_back at i)
  return_found at (absent e r s) =
      let c : at ≡ w.count = e ∙ in_use_length w p in
      rw (r, le-ltb at w.count (omega (arith, c))) (refuses_held 18)

  returns : AgreeIn (after_edit (return_in w name)) (journal_return (holds (load_of w.sheet) (row_of w.sheet)) (names_of w) name)
  unfolding return_in if_named journal_return
  returns = rw (usable_held_in w h p) (by (is_bad_name name))
    where
      by : (b : Bool)
          → AgreeIn (after_edit (cond b (kept_by 16 w) (cond (ltb (place_of w name) w.count) (leaves (return_at w (place_of w name))) (kept_by 18 w))))
          (cond b (no 16 [], before w) (returned (kept_under name (names_of w)) (load_of w.sheet) (row_of w.sheet) (names_of w)))
      by true = refuses_held 16
      by false = return_found (place_of w name) found_at

-- ---- and on any good one
module _ (w : Workspace) (p : Places w) (name : List ℕ) where
  keep_step : Good w.sheet → AgreeIn (after_edit (keep_in w name)) (journal_keep (journal_of w.sheet) (names_of w) name)
  unfolding keep_in if_named journal_keep
  keep_step (blank e) =
      rw (usable_blank_in w e p, journal_blank w.sheet e) (refl, refl, blank e, p)
  keep_step (held h) = rw (journal_held w.sheet h) (keeps w h p name)

  return_step : Good w.sheet → AgreeIn (after_edit (return_in w name)) (journal_return (journal_of w.sheet) (names_of w) name)
  unfolding return_in if_named journal_return
  return_step (blank e) =
      rw (usable_blank_in w e p, journal_blank w.sheet e) (refl, refl, blank e, p)
  return_step (held h) = rw (journal_held w.sheet h) (returns w h p name)

-- ---- a call of the sheet
-- "an accepted load clears all names", a refused one none
loaded_names : (c : Call) → is_load c ≡ true → (ks : List NamedEdits) → names_after c (ok [] []) ks ≡ []
loaded_names (load block raw picture model) l ks = refl
loaded_names (change c) l ks = absurd (false≢true l)
loaded_names back l ks = absurd (false≢true l)
loaded_names (list buffer) l ks = absurd (false≢true l)
loaded_names (fit box buffer) l ks = absurd (false≢true l)

refused_names : (c : Call) (n : ℕ) (ks : List NamedEdits) → names_after c (no n []) ks ≡ ks
refused_names (load block raw picture model) n ks = refl
refused_names (change c) n ks = refl
refused_names back n ks = refl
refused_names (list buffer) n ks = refl
refused_names (fit box buffer) n ks = refl

fresh_places : (s : Sheet) → Places (without_names s)
unfolding without_names
fresh_places s = record { counted = omega arith; placed = refl; fine = fresh_fine }

loads_in : (w : Workspace) → Good w.sheet → Places w → (c : Call) → is_load c ≡ true → (o : Outcome Focus) → Sound o
    → AgreeIn (after_edit (load_in w o)) (
      (journal_load (journal_of w.sheet) o).0,
      with (journal_load (journal_of w.sheet) o).1 (names_after c (journal_load (journal_of w.sheet) o).0 (names_of w)),
    )
unfolding load_in without_names load_sheet journal_load
loads_in w g p c l (refused n) d =
    let a = loads w.sheet g (refused n) d in
    let e : names_after c (no n []) (names_of w) ≡ names_of w = refused_names c n (names_of w) in
    rw e (a.0, ap (λ (j : Journal). with j (names_of w)) a.1, a.2, p)
loads_in w g p c l (accepted f) d =
    let a = loads w.sheet g (accepted f) d in
    let e : names_after c (ok [] []) (names_of w) ≡ [] = loaded_names c l (names_of w) in
    rw e (a.0, ap (λ (j : Journal). with j []) a.1, a.2, fresh_places (loaded_sheet f))

passes : (w : Workspace) → Good w.sheet → Places w → (c : Call)
    → AgreeIn ((sheet_step w.sheet c).0, with_sheet w (sheet_step w.sheet c).1)
    ((journal_step (journal_of w.sheet) c).0, with (journal_step (journal_of w.sheet) c).1 (names_of w))
passes w g p c =
    let a = step w.sheet g c in (
      a.0,
      ap (λ (j : Journal). with j (names_of w)) a.1,
      a.2,
      record { counted = p.counted; placed = p.placed; fine = p.fine },
    )

sheet_step_lem : (w : Workspace) → Good w.sheet → Places w → (c : Call) → AgreeIn (sheet_step_in w c) (journal_sheet (journal_in w) c)
unfolding sheet_step_in sheet_step journal_sheet journal_step edit_in list_outcome_in list_buffer_in fit_outcome_in fit_buffer_in
sheet_step_lem w g p (load block raw picture model) =
    loads_in w g p (load block raw picture model) refl (focus_of block raw picture model) (focus_sound block raw picture model)
sheet_step_lem w g p (change c) = rw (counted_in w p) (passes w g p (change c))
sheet_step_lem w g p back = rw (counted_in w p) (passes w g p back)
sheet_step_lem w g p (list buffer) = rw (counted_in w p) (passes w g p (list buffer))
sheet_step_lem w g p (fit box buffer) = rw (counted_in w p) (passes w g p (fit box buffer))

-- ---- any call, any list of calls
step_in : (w : Workspace) → Good w.sheet → Places w → (c : WorkspaceCall) → AgreeIn (workspace_step w c) (journal_step_in (journal_in w) c)
unfolding workspace_step journal_step_in
step_in w g p (on_sheet c) = sheet_step_lem w g p c
step_in w g p (keep name) = keep_step w p name g
step_in w g p (return name) = return_step w p name g

runs_in : (cs : List WorkspaceCall) (w : Workspace) → Good w.sheet → Places w → run_workspace w cs ≡ run_journal_in (journal_in w) cs
unfolding run_workspace run_journal_in
runs_in [] w g p = refl
runs_in (c ∷ cs) w g p =
    let a = step_in w g p c in
    ap₂ (λ (x : Answer) (xs : List Answer). x ∷ xs) a.0
    (runs_in cs (workspace_step w c).1 a.2 a.3 ∙ ap (λ (j : WorkspaceJournal). run_journal_in j cs) a.1)

-- the fresh workspace
fresh_good : Good fresh_workspace.sheet
unfolding without_names fresh_sheet
fresh_good = blank refl

fresh_in : Places fresh_workspace
fresh_in = fresh_places fresh_sheet

fresh_journal : journal_in fresh_workspace ≡ empty_in
unfolding without_names fresh_sheet
fresh_journal = refl

pub workspace_claim : WorkspaceClaim
workspace_claim calls =
    runs_in calls fresh_workspace fresh_good fresh_in ∙ ap (λ (j : WorkspaceJournal). run_journal_in j calls) fresh_journal

-- ---- after any list of calls
-- the workspace stands for the journal
record Follows (w : Workspace) (j : WorkspaceJournal) : Type 0 where
  same : journal_in w ≡ j
  good : Good w.sheet
  places : Places w

follows : (cs : List WorkspaceCall) (w : Workspace) → Good w.sheet → Places w
    → Follows (workspace_after w cs) (journal_after_in (journal_in w) cs)
unfolding workspace_after journal_after_in
follows [] w g p = record { same = refl; good = g; places = p }
follows (c ∷ cs) w g p =
    let a = step_in w g p c in
    let f = follows cs (workspace_step w c).1 a.2 a.3 in
    record { same = f.same ∙ ap (λ (j : WorkspaceJournal). journal_after_in j cs) a.1; good = f.good; places = f.places }

follows_in : (calls : List WorkspaceCall) → Follows (workspace_after fresh_workspace calls) (after_in calls)
follows_in calls =
    let f = follows calls fresh_workspace fresh_good fresh_in in
    record { same = f.same ∙ ap (λ (j : WorkspaceJournal). journal_after_in j calls) fresh_journal; good = f.good; places = f.places }

-- and answers a further call as it does
pub answers_in : (calls : List WorkspaceCall) (c : WorkspaceCall) → answer_in calls c ≡ (journal_step_in (after_in calls) c).0
answers_in calls c =
    let f = follows_in calls in
    (step_in (workspace_after fresh_workspace calls) f.good f.places c).0
    ∙ ap (λ (j : WorkspaceJournal). (journal_step_in j c).0) f.same

pub eight_at_most : EightAtMost
eight_at_most calls =
    let f = follows_in calls in
    let w = workspace_after fresh_workspace calls in
    let long : length (names_of w) ≡ w.count = length-map (in_use w) kept_of ∙ in_use_length w f.places in
    let e : length (after_in calls).names ≡ w.count = ap (λ (j : WorkspaceJournal). length j.names) (sym f.same) ∙ long in
    omega (arith, e, f.places.counted)

-- one call more
pub after_snoc : (w : WorkspaceJournal) (cs : List WorkspaceCall) (c : WorkspaceCall) → journal_after_in w (cs ++ c ∷ []) ≡ (journal_step_in (journal_after_in w cs) c).1
unfolding journal_after_in
after_snoc w [] c = refl
after_snoc w (d ∷ cs) c = after_snoc (journal_step_in w d).1 cs c
