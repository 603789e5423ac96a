-- Names: `same` is equality; what is kept under a name after a keep; and no name is kept twice, as a keep replaces the one that is there:
-- by induction over the calls. Assumes nothing.
use Rattle.std.specs.Prelude.{Option, Some, None}
use Prim.Native.Nat.{ℕ}
use mathlib.Core.Bool.{Bool, true, false, ◌&&◌, cond, false≢true}
use mathlib.Core.List.{List, [], ◌∷◌}
use mathlib.Core.Path.{◌≡◌, refl, sym, ap, ap₂, ◌∙◌}
use lib.Dec.{eqb}
use borrow.Author.Tests.{eqb-true, eq-eqb}
use Rattle.laws.proofs.Tests.{both}
use Rattle.numbers.specs.Bytes.{same}
use Rattle.reading.specs.Outcome.{is_accepted}
use Rattle.workspace.specs.Names.{is_bad_name}
use Rattle.journal.specs.Journal.{Change, Journal, empty, holds, Answer, no, ended}
use Rattle.journal.specs.Calls.{is_load, journal_step}
use Rattle.journal.specs.WorkspaceJournal.{NamedEdits, WorkspaceJournal, with, empty_in, kept_under, keep_under, WorkspaceCall, on_sheet, keep, return, journal_sheet, keep_refusal, journal_keep, returned, journal_return, journal_step_in, journal_after_in}
use Rattle.journal.specs.WorkspaceClaim.{ComparedExactly, Differ, NamesDiffer}

-- ---- compared
pub same_true : (a b : List ℕ) → same a b ≡ true → a ≡ b
unfolding same
same_true [] [] e = refl
same_true [] (y ∷ ys) e = absurd (false≢true e)
same_true (x ∷ xs) [] e = absurd (false≢true e)
same_true (x ∷ xs) (y ∷ ys) e =
    let d = both (eqb x y) (same xs ys) e in
    ap₂ (λ (z : ℕ) (zs : List ℕ). z ∷ zs) (eqb-true x y d.0) (same_true xs ys d.1)

same_self : (a : List ℕ) → same a a ≡ true
unfolding same
same_self [] = refl
same_self (x ∷ xs) = rw (eq-eqb x x refl) (same_self xs)

pub compared_exactly : ComparedExactly
compared_exactly a b = (same_true a b, λ e. ap (same a) (sym e) ∙ same_self a)

-- of two names that differ one at most is a third
same_both : (k m n : List ℕ) → same k m ≡ false → same m n ≡ true → same k n ≡ false
same_both k m n d e = by (same k n) refl
  where
    by : (b : Bool) → same k n ≡ b → b ≡ false
    by false g = refl
    by true g =
        let f : same k m ≡ true = ap₂ same (same_true k n g) (same_true m n e) ∙ same_self n in
        absurd (false≢true (sym d ∙ f))

-- what is kept under a name after a keep under another, or the same
pub kept_after : (n m : List ℕ) (edits : List Change) (ks : List NamedEdits)
    → kept_under n (keep_under m edits ks) ≡ cond (same m n) (Some edits) (kept_under n ks)
unfolding kept_under keep_under
kept_after n m edits [] = refl
kept_after n m edits (k ∷ ks) = by (kept_after n m edits ks) (same k.name m) refl (same m n) refl
  where
    by : kept_under n (keep_under m edits ks) ≡ cond (same m n) (Some edits) (kept_under n ks)
        → (a : Bool) → same k.name m ≡ a → (b : Bool) → same m n ≡ b
        → kept_under n (cond a (record { name = m; edits = edits } ∷ ks) (k ∷ keep_under m edits ks))
        ≡ cond b (Some edits) (cond (same k.name n) (Some k.edits) (kept_under n ks))
    by r true e true g = rw g
    by r true e false g = rw (g, same_true k.name m e, g)
    by r false e true g = rw (same_both k.name m n e g, r, g)
    by r false e false g = rw (r, g)

-- ---- no name twice
same_flipped : (a b : List ℕ) → same a b ≡ false → same b a ≡ false
same_flipped a b g = by (same b a) refl
  where
    by : (c : Bool) → same b a ≡ c → c ≡ false
    by false h = refl
    by true h = absurd (false≢true (sym g ∙ ap (same a) (same_true b a h) ∙ same_self a))

differ_keep : (name : List ℕ) (row : List Change) (ks : List NamedEdits) → Differ ks → Differ (keep_under name row ks)
unfolding Differ keep_under kept_under
differ_keep name row [] d = (refl, tt)
differ_keep name row (k ∷ ks) d = by (differ_keep name row ks d.1) (same k.name name) refl
  where
    by : Differ (keep_under name row ks) → (b : Bool) → same k.name name ≡ b
        → Differ (cond b (record { name = name; edits = row } ∷ ks) (k ∷ keep_under name row ks))
    by r true e = (ap (λ (m : List ℕ). kept_under m ks) (sym (same_true k.name name e)) ∙ d.0, d.1)
    by r false e = (
      kept_after k.name name row ks
          ∙ ap (λ (b : Bool). cond b (Some row) (kept_under k.name ks)) (same_flipped k.name name e)
          ∙ d.0,
      r,
    )

differ_none : Differ []
unfolding Differ
differ_none = tt

keep_differ : (j : Journal) (ks : List NamedEdits) (name : List ℕ) → Differ ks → Differ (journal_keep j ks name).1.names
unfolding journal_keep
keep_differ empty ks name d = d
keep_differ (holds f row) ks name d = by (keep_refusal name ks)
  where
    by : (o : Option ℕ) → Differ (ended o (with (holds f row) ks) (with (holds f row) (keep_under name row ks))).1.names
    by None = differ_keep name row ks d
    by (Some n) = d

return_differ : (j : Journal) (ks : List NamedEdits) (name : List ℕ) → Differ ks → Differ (journal_return j ks name).1.names
unfolding journal_return
return_differ empty ks name d = d
return_differ (holds f row) ks name d = by (is_bad_name name) (kept_under name ks)
  where
    by : (a : Bool) (o : Option (List Change))
        → Differ (cond {A = Answer × WorkspaceJournal} a (no 16 [], with (holds f row) ks) (returned o f row ks)).1.names
    by true o = d
    by false None = d
    by false (Some edits) = d

differ_step : (w : WorkspaceJournal) (c : WorkspaceCall) → Differ w.names → Differ (journal_step_in w c).1.names
unfolding journal_step_in journal_sheet
differ_step w (on_sheet c) d = by (is_load c && is_accepted (journal_step w.journal c).0.outcome)
  where
    by : (b : Bool) → Differ (cond b [] w.names)
    by true = differ_none
    by false = d
differ_step w (keep name) d = keep_differ w.journal w.names name d
differ_step w (return name) d = return_differ w.journal w.names name d

differ_from : (cs : List WorkspaceCall) (w : WorkspaceJournal) → Differ w.names → Differ (journal_after_in w cs).names
unfolding journal_after_in
differ_from [] w d = d
differ_from (c ∷ cs) w d = differ_from cs (journal_step_in w c).1 (differ_step w c d)

pub names_differ : NamesDiffer
names_differ calls = differ_from calls empty_in differ_none
