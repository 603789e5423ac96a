-- The journal of a workspace holds the last accepted load, by induction over the calls: a keep or a return brings no other. And a
-- workspace's call is refused exactly when its refusals say: the sheet's calls by proofs/Refusals.antt, keep and return by the cases of
-- their tests, both ways. Assumes nothing.
use Rattle.std.specs.Prelude.{Option, Some, None}
use Prim.Native.Nat.{ℕ, ◌≤◌}
use mathlib.Core.Bool.{Bool, true, false, ◌||◌, not, cond, false≢true}
use mathlib.Core.List.{List, [], ◌∷◌}
use mathlib.Core.Logic.{inl, inr}
use mathlib.Core.Path.{◌≡◌, refl, subst, ap, ◌∙◌}
use lib.Dec.{leb, ltb, eqb}
use lib.ListN.{length}
use native.Mathlib.Omega.{arith}
use borrow.Author.Tests.{lt-ltb, le-ltb, le-leb, eq-eqb, ne_eqb, ltb-true, ltb-false, leb-true, eqb-true, eqb-false}
use Rattle.laws.proofs.Tests.{neither, both, or_first, or_second}
use Rattle.reading.specs.Outcome.{Outcome, refused}
use Rattle.placing.specs.Load.{Focus}
use Rattle.workspace.specs.Names.{is_bad_name}
use Rattle.journal.specs.Journal.{Change, Journal, empty, holds, Answer, no, ended}
use Rattle.journal.specs.Calls.{Call, load, change, back, list, fit, journal_after}
use Rattle.journal.specs.Claim.{last_from, held_load}
use Rattle.journal.specs.WorkspaceJournal.{NamedEdits, WorkspaceJournal, with, empty_in, kept_under, keep_under, is_kept, is_ninth, WorkspaceCall, on_sheet, keep, return, lent_in, journal_sheet, keep_refusal, journal_keep, returned, journal_return, journal_step_in, journal_after_in}
use Rattle.journal.specs.WorkspaceClaim.{after_in, sheet_calls, HoldsLastLoadIn, is_load_in, EmptyBeforeIn, BadName, GoodName, RefusesIn, of_sheet, empty_keep, empty_return, bad_keep, bad_return, ninth, no_such_name, RefusedExactlyIn}
use Rattle.journal.proofs.Refusals.{load_from, no_load, empty_seven, never, told, says}
use Rattle.journal.proofs.Latest.{keep_journal}
use Rattle.journal.proofs.WorkspaceAgrees.{answers_in}

same_number : {w : WorkspaceJournal} {c : WorkspaceCall} {m n : ℕ} → RefusesIn w c m → ◌≡◌ {A = Outcome (List ℕ)} (refused m) (refused n)
    → RefusesIn w c n
same_number {w} {c} {m} {n} r e = let q : m ≡ n = cc in subst (λ (k : ℕ). RefusesIn w c k) q r

-- ---- the last accepted load
return_load : (j : Journal) (ks : List NamedEdits) (name : List ℕ) → held_load (journal_return j ks name).1.journal ≡ held_load j
unfolding journal_return
return_load empty ks name = refl
return_load (holds f row) ks name = by (is_bad_name name) (kept_under name ks)
  where
    by : (a : Bool) (o : Option (List Change))
        → held_load (cond {A = Answer × WorkspaceJournal} a (no 16 [], with (holds f row) ks) (returned o f row ks)).1.journal ≡ Some f
    by true o = refl
    by false None = refl
    by false (Some edits) = refl

-- one call, then the others
last_onward : (last : Option Focus) (c : Call) (cs : List Call) → last_from (last_from last (c ∷ [])) cs ≡ last_from last (c ∷ cs)
unfolding last_from
last_onward last (load block raw picture model) cs = refl
last_onward last (change c) cs = refl
last_onward last back cs = refl
last_onward last (list buffer) cs = refl
last_onward last (fit box buffer) cs = refl

load_from_in : (cs : List WorkspaceCall) (w : WorkspaceJournal)
    → held_load (journal_after_in w cs).journal ≡ last_from (held_load w.journal) (sheet_calls cs)
unfolding journal_after_in journal_after journal_step_in journal_sheet sheet_calls last_from
load_from_in [] w = refl
load_from_in (on_sheet c ∷ cs) w =
    load_from_in cs (journal_sheet w c).1
    ∙ ap (λ (o : Option Focus). last_from o (sheet_calls cs)) (load_from w.journal (c ∷ []))
    ∙ last_onward (held_load w.journal) c (sheet_calls cs)
load_from_in (keep name ∷ cs) w =
    load_from_in cs (journal_keep w.journal w.names name).1
    ∙ ap (λ (j : Journal). last_from (held_load j) (sheet_calls cs)) (keep_journal w.journal w.names name)
load_from_in (return name ∷ cs) w =
    load_from_in cs (journal_return w.journal w.names name).1
    ∙ ap (λ (o : Option Focus). last_from o (sheet_calls cs)) (return_load w.journal w.names name)

pub holds_last_load_in : HoldsLastLoadIn
holds_last_load_in calls = load_from_in calls empty_in

-- ---- before a load
empty_in_lem : (ks : List NamedEdits) (c : WorkspaceCall) → is_load_in c ≡ false → (journal_step_in (with empty ks) c).0 ≡ no 7 (lent_in c)
unfolding journal_step_in journal_sheet journal_keep journal_return
empty_in_lem ks (on_sheet c) l = empty_seven c l
empty_in_lem ks (keep name) l = refl
empty_in_lem ks (return name) l = refl

pub empty_before_in : EmptyBeforeIn
empty_before_in calls c e l =
    let w = after_in calls in
    let j : w.journal ≡ empty = no_load w.journal (holds_last_load_in calls ∙ e) in
    answers_in calls c
    ∙ ap (λ (i : Journal). (journal_step_in (with i w.names) c).0) j
    ∙ empty_in_lem w.names c l

-- ---- names
module _ (name : List ℕ) where
  bad_told : is_bad_name name ≡ true → BadName name
  unfolding is_bad_name
  bad_told e = by (eqb (length name) 0) refl e
    where
      by : (a : Bool) → eqb (length name) 0 ≡ a → (a || ltb 16 (length name)) ≡ true → BadName name
      by true p y = inl (eqb-true (length name) 0 p)
      by false p y = inr (ltb-true 16 (length name) y)

  bad_of : BadName name → is_bad_name name ≡ true
  unfolding is_bad_name
  bad_of (inl p) = or_first (eqb (length name) 0) _ (eq-eqb (length name) 0 p)
  bad_of (inr p) = or_second (eqb (length name) 0) _ (lt-ltb 16 (length name) p)

  good_told : is_bad_name name ≡ false → GoodName name
  unfolding is_bad_name
  good_told e =
      let a = neither (eqb (length name) 0) (ltb 16 (length name)) e in
      record {
        some_bytes = positive (length name) (eqb-false (length name) 0 a.0);
        not_long = ltb-false 16 (length name) a.1;
      }
    where
      positive : (k : ℕ) → (k ≡ 0 → ⊥) → 1 ≤ k
      positive k z = omega arith

  good_of : GoodName name → is_bad_name name ≡ false
  unfolding is_bad_name
  good_of g = rw (ne_eqb (length name) 0 (λ e. omega (arith, g.some_bytes)), le-ltb 16 (length name) g.not_long)

  module _ (ks : List NamedEdits) where
    ninth_told : is_ninth name ks ≡ true → (kept_under name ks ≡ None) × (8 ≤ length ks)
    unfolding is_ninth
    ninth_told e =
        let d = both (not (is_kept (kept_under name ks))) (leb 8 (length ks)) e in
        (by (kept_under name ks) d.0, leb-true 8 (length ks) d.1)
      where
        by : (o : Option (List Change)) → not (is_kept o) ≡ true → o ≡ None
        by None y = refl
        by (Some edits) y = absurd (false≢true y)

    ninth_of : kept_under name ks ≡ None → 8 ≤ length ks → is_ninth name ks ≡ true
    unfolding is_ninth
    ninth_of e h = rw (e, le-leb 8 (length ks) h)

    -- ---- a refusal tells that its number applies
    keep_told : (j : Journal) (n : ℕ) → (journal_keep j ks name).0.outcome ≡ refused n → RefusesIn (with j ks) (keep name) n
    unfolding journal_keep keep_refusal
    keep_told empty n e = same_number empty_keep e
    keep_told (holds f row) n e = by (is_bad_name name) (is_ninth name ks) refl refl e
      where
        by : (a b : Bool) → is_bad_name name ≡ a → is_ninth name ks ≡ b
            → (ended (cond a (Some 16) (cond b (Some 17) None)) (with (holds f row) ks) (with (holds f row) (keep_under name row ks))).0.outcome ≡ refused n
            → RefusesIn (with (holds f row) ks) (keep name) n
        by true b p q y = same_number (bad_keep (bad_told p)) y
        by false true p q y = let d = ninth_told q in same_number (ninth (good_told p) d.0 d.1) y
        by false false p q y = absurd (never [] n y)

    return_told : (j : Journal) (n : ℕ) → (journal_return j ks name).0.outcome ≡ refused n → RefusesIn (with j ks) (return name) n
    unfolding journal_return
    return_told empty n e = same_number empty_return e
    return_told (holds f row) n e = by (is_bad_name name) (kept_under name ks) refl refl e
      where
        by : (a : Bool) (o : Option (List Change)) → is_bad_name name ≡ a → kept_under name ks ≡ o
            → (cond a (no 16 [], with (holds f row) ks) (returned o f row ks)).0.outcome ≡ refused n
            → RefusesIn (with (holds f row) ks) (return name) n
        by true o p q y = same_number (bad_return (bad_told p)) y
        by false None p q y = same_number (no_such_name (good_told p) q) y
        by false (Some edits) p q y = absurd (never [] n y)

told_in : (w : WorkspaceJournal) (c : WorkspaceCall) (n : ℕ) → (journal_step_in w c).0.outcome ≡ refused n → RefusesIn w c n
unfolding journal_step_in journal_sheet
told_in w (on_sheet c) n e = of_sheet (told w.journal c n e)
told_in w (keep name) n e = keep_told name w.names w.journal n e
told_in w (return name) n e = return_told name w.names w.journal n e

-- ---- and a number that applies is answered
says_in : {w : WorkspaceJournal} {c : WorkspaceCall} {n : ℕ} → RefusesIn w c n → (journal_step_in w c).0.outcome ≡ refused n
unfolding journal_step_in journal_sheet journal_keep keep_refusal journal_return
says_in (of_sheet r) = says r
says_in empty_keep = refl
says_in empty_return = refl
says_in (bad_keep {name = name} d) = rw (bad_of name d)
says_in (bad_return {name = name} d) = rw (bad_of name d)
says_in (ninth {ks = ks} {name = name} g e h) = rw (good_of name g, ninth_of name ks e h)
says_in (no_such_name {ks = ks} {name = name} g e) = rw (good_of name g, e)

pub refused_exactly_in : RefusedExactlyIn
refused_exactly_in calls c n = (
  λ e. told_in (after_in calls) c n (rw (answers_in calls c) at e),
  λ r. rw (answers_in calls c) (says_in r),
)
