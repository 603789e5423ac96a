-- The claim over lines, from the claim over calls. The texts are woven from the lines and the answers to the calls that they spell
-- (`woven`), for the sheet as for the journal: said once, of any state with its step (`are_woven`). The answers are the same by the
-- claim over calls, so the texts are. Assumes nothing.
use Prim.Native.Nat.{ℕ}
use mathlib.Core.List.{List, [], ◌∷◌}
use mathlib.Core.Path.{◌≡◌, refl, sym, ap, ap₂, ◌∙◌}
use Rattle.answers.specs.Answers.{no_text}
use Rattle.reading.specs.Outcome.{Outcome, refused, accepted}
use Rattle.reading.specs.Contents.{contents_of}
use Rattle.sheet.specs.declared.Sheet.{Sheet}
use Rattle.sheet.specs.Sheet.{fresh_sheet}
use Rattle.journal.specs.Journal.{Journal, empty, Answer}
use Rattle.journal.specs.Calls.{Call, journal_step, run_journal}
use Rattle.journal.specs.SheetCalls.{sheet_step, run_sheet}
use Rattle.journal.proofs.Claim.{claim}
use Rattle.session.specs.Lines.{Spelled, contents, asks, spelled}
use Rattle.session.specs.Texts.{answer_text, contents_text, text_by, journal_next, journal_texts}
use Rattle.session.specs.Answering.{sheet_next, sheet_texts}
use Rattle.session.specs.Claim.{LinesClaim}

-- what a line spells, before the calls of further lines
calls : Outcome Spelled → List Call → List Call
calls (refused n) cs = cs
calls (accepted (contents block)) cs = cs
calls (accepted (asks c)) cs = c ∷ cs

calls_of : List (List ℕ) → List Call
calls_of [] = []
calls_of (l ∷ ls) = calls (spelled l) (calls_of ls)

-- a line's text, of the answers from its own on, and the answers after it
first_text : Outcome Spelled → List Answer → List ℕ
first_text (refused n) answers = no_text n
first_text (accepted (contents block)) answers = contents_text (contents_of block)
first_text (accepted (asks c)) [] = []
first_text (accepted (asks c)) (a ∷ answers) = answer_text a

rest : Outcome Spelled → List Answer → List Answer
rest (refused n) answers = answers
rest (accepted (contents block)) answers = answers
rest (accepted (asks c)) [] = []
rest (accepted (asks c)) (a ∷ answers) = answers

woven : List (List ℕ) → List Answer → List (List ℕ)
woven [] answers = []
woven (l ∷ ls) answers = first_text (spelled l) answers ∷ woven ls (rest (spelled l) answers)

-- a state, how a call and a list of calls are answered in it, what a line leaves of it, and the texts of lines
module _ {S : Type 0} (step : S → Call → Answer × S) (run : S → List Call → List Answer) (next : S → Outcome Spelled → S) (texts : S → List (List ℕ) → List (List ℕ))
    (goes : (s : S) (c : Call) (cs : List Call) → run s (c ∷ cs) ≡ (step s c).0 ∷ run (step s c).1 cs)
    (stays : (s : S) (n : ℕ) → next s (refused n) ≡ s) (keeps : (s : S) (block : List ℕ) → next s (accepted (contents block)) ≡ s) (moves : (s : S) (c : Call) → next s (accepted (asks c)) ≡ (step s c).1)
    (none : (s : S) → texts s [] ≡ [])
    (some : (s : S) (l : List ℕ) (ls : List (List ℕ)) → texts s (l ∷ ls) ≡ text_by (λ c. (step s c).0) (spelled l) ∷ texts (next s (spelled l)) ls)
  where
    first_text_lem : (s : S) (x : Outcome Spelled) (cs : List Call) → text_by (λ c. (step s c).0) x ≡ first_text x (run s (calls x cs))
    unfolding calls first_text
    first_text_lem s (refused n) cs = refl
    first_text_lem s (accepted (contents block)) cs = refl
    first_text_lem s (accepted (asks c)) cs = rw (goes s c cs)

    rest_run : (s : S) (x : Outcome Spelled) (cs : List Call) → run (next s x) cs ≡ rest x (run s (calls x cs))
    unfolding calls rest
    rest_run s (refused n) cs = rw (stays s n)
    rest_run s (accepted (contents block)) cs = rw (keeps s block)
    rest_run s (accepted (asks c)) cs = rw (goes s c cs, moves s c)

    are_woven : (ls : List (List ℕ)) (s : S) → texts s ls ≡ woven ls (run s (calls_of ls))
    unfolding woven calls_of
    are_woven [] s = none s
    are_woven (l ∷ ls) s =
        some s l ls ∙
        ap₂ ◌∷◌ (first_text_lem s (spelled l) (calls_of ls))
        (are_woven ls (next s (spelled l)) ∙ ap (woven ls) (rest_run s (spelled l) (calls_of ls)))

sheet_woven : (ls : List (List ℕ)) (s : Sheet) → sheet_texts s ls ≡ woven ls (run_sheet s (calls_of ls))
unfolding run_sheet sheet_texts
sheet_woven =
    are_woven sheet_step run_sheet sheet_next sheet_texts (λ s c cs. refl) (λ s n. refl) (λ s b. refl) (λ s c. refl) (λ s. refl) (λ s l ls. refl)

journal_woven : (ls : List (List ℕ)) (j : Journal) → journal_texts j ls ≡ woven ls (run_journal j (calls_of ls))
unfolding run_journal journal_texts
journal_woven =
    are_woven journal_step run_journal journal_next journal_texts (λ j c cs. refl) (λ j n. refl) (λ j b. refl) (λ j c. refl) (λ j. refl) (λ j l ls. refl)

pub lines_claim : LinesClaim
lines_claim ls = sheet_woven ls fresh_sheet ∙ ap (woven ls) (claim (calls_of ls)) ∙ sym (journal_woven ls empty)
