-- What follows from the claim at once: after any list of calls the sheet answers a further call as the journal does. The claim for
-- the list with that call at its end; the last answer of each side. Assumes nothing.
use Prim.Native.Nat.{suc}
use mathlib.Core.List.{List, [], ◌∷◌, ◌++◌}
use mathlib.Core.Path.{◌≡◌, refl, sym, ap, ◌∙◌}
use lib.ListN.{get_or, length}
use lib.Seq.{get_or_at}
use Rattle.reading.specs.Outcome.{Outcome, accepted}
use Rattle.placing.specs.Focus.{focus_of}
use Rattle.placing.specs.Load.{Focus}
use Rattle.sheet.specs.declared.Sheet.{Sheet}
use Rattle.sheet.specs.Sheet.{fresh_sheet, load_sheet}
use Rattle.journal.specs.Journal.{Journal, empty, Answer, no, journal_load}
use Rattle.journal.specs.Calls.{Call, load, journal_step, run_journal, journal_after}
use Rattle.journal.specs.SheetCalls.{after_edit, sheet_step, run_sheet, sheet_after}
use Rattle.journal.specs.Claim.{after, answer, LoadOnAny}
use Rattle.journal.proofs.Claim.{claim}

sheet_snoc : (s : Sheet) (cs : List Call) (c : Call) → run_sheet s (cs ++ c ∷ []) ≡ run_sheet s cs ++ (sheet_step (sheet_after s cs) c).0 ∷ []
unfolding run_sheet sheet_after
sheet_snoc s [] c = refl
sheet_snoc s (d ∷ cs) c = ap (λ (l : List Answer). (sheet_step s d).0 ∷ l) (sheet_snoc (sheet_step s d).1 cs c)

journal_snoc : (j : Journal) (cs : List Call) (c : Call) → run_journal j (cs ++ c ∷ []) ≡ run_journal j cs ++ (journal_step (journal_after j cs) c).0 ∷ []
unfolding run_journal journal_after
journal_snoc j [] c = refl
journal_snoc j (d ∷ cs) c = ap (λ (l : List Answer). (journal_step j d).0 ∷ l) (journal_snoc (journal_step j d).1 cs c)

sheet_length : (s : Sheet) (cs : List Call) → length (run_sheet s cs) ≡ length cs
unfolding run_sheet
sheet_length s [] = refl
sheet_length s (c ∷ cs) = ap suc (sheet_length (sheet_step s c).1 cs)

journal_length : (j : Journal) (cs : List Call) → length (run_journal j cs) ≡ length cs
unfolding run_journal
journal_length j [] = refl
journal_length j (c ∷ cs) = ap suc (journal_length (journal_step j c).1 cs)

pub answers : (calls : List Call) (c : Call) → answer calls c ≡ (journal_step (after calls) c).0
answers calls c =
    let d = no 0 [] in
    let a : get_or (run_sheet fresh_sheet (calls ++ c ∷ [])) (length calls) d ≡ answer calls c =
    rw (sheet_snoc fresh_sheet calls c)
    (get_or_at (run_sheet fresh_sheet calls) (answer calls c) [] d (length calls) (sheet_length fresh_sheet calls)) in
    let b : get_or (run_journal empty (calls ++ c ∷ [])) (length calls) d ≡ (journal_step (after calls) c).0 =
    rw (journal_snoc empty calls c)
    (get_or_at (run_journal empty calls) (journal_step (after calls) c).0 [] d (length calls) (journal_length empty calls)) in
    sym a ∙ ap (λ (l : List Answer). get_or l (length calls) d) (claim (calls ++ c ∷ [])) ∙ b

-- the same, where it is known what the journal holds
pub answered : (calls : List Call) (j : Journal) (c : Call) → after calls ≡ j → answer calls c ≡ (journal_step j c).0
answered calls j c e = answers calls c ∙ ap (λ (k : Journal). (journal_step k c).0) e

-- a list of calls after another
pub after_append : (j : Journal) (cs ds : List Call) → journal_after j (cs ++ ds) ≡ journal_after (journal_after j cs) ds
unfolding journal_after
after_append j [] ds = refl
after_append j (c ∷ cs) ds = after_append (journal_step j c).1 cs ds

-- an accepted load leaves nothing of the sheet before it
load_same : (s t : Sheet) (o : Outcome Focus) (f : Focus) → o ≡ accepted f → after_edit (load_sheet s o) ≡ after_edit (load_sheet t o)
unfolding load_sheet
load_same s t o f e = rw e

pub load_on_any : LoadOnAny
unfolding run_sheet run_journal sheet_step journal_step journal_load
load_on_any s block raw picture model f e calls =
    let o = focus_of block raw picture model in
    ap (λ (r : Answer × Sheet). r.0 ∷ run_sheet r.1 calls) (load_same s fresh_sheet o f e)
    ∙ claim (load block raw picture model ∷ calls)
    ∙ rw e
