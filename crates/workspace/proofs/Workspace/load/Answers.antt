-- `Workspace::load`: load_in by what the load comes to, from what the sheet's load ensures. Assumes nothing.
use Prim.Native.Nat.{ℕ}
use mathlib.Core.Path.{◌≡◌, sym, ap}
use mathlib.Core.List.{List}
use mathlib.Core.Bool.{false≢true}
use Rattle.reading.specs.Outcome.{Outcome, refused, accepted, is_accepted}
use Rattle.placing.specs.Load.{Focus}
use Rattle.sheet.specs.declared.Sheet.{Sheet}
use Rattle.sheet.specs.Sheet.{leaves, kept_by, load_sheet}
use Rattle.std.proofs.lemmas.Result.{err_from_is_err_and}
use Rattle.workspace.specs.declared.Workspace.{Workspace}
use Rattle.workspace.specs.Workspace.{without_names, load_in}
use Rattle.workspace.proofs.Workspace.load.Goals as goal

keeps : (w : Workspace) (s : Sheet) (o : Outcome Focus) (n : ℕ) → kept_by n s ≡ load_sheet s o → kept_by n w ≡ load_in w o
unfolding load_sheet load_in
keeps w s (refused m) n e = ap (λ (x : Outcome (List ℕ) × Sheet). (x.0, w)) e
keeps w s (accepted f) n e = absurd (false≢true (ap (λ (x : Outcome (List ℕ) × Sheet). is_accepted x.0) e))

clears : (w : Workspace) (s : Sheet) (o : Outcome Focus) (t : Sheet) → leaves t ≡ load_sheet s o
    → (v : Workspace) → v ≡ without_names t → leaves v ≡ load_in w o
unfolding load_sheet load_in
clears w s (refused m) t e v d = absurd (false≢true (ap (λ (x : Outcome (List ℕ) × Sheet). is_accepted x.0) (sym e)))
clears w s (accepted f) t e v d = rw d (ap (λ (x : Outcome (List ℕ) × Sheet). leaves (without_names x.1)) e)

pub returns-in_err-sheet : goal.returns-in_err-sheet
returns-in_err-sheet c =
    let p = err_from_is_err_and c.from_residual.result c.from_residual.ensures.1 in rw (p.1, p.2) (keeps _ _ _ _ c.in_err-sheet.ensures)

pub returns : goal.returns
returns c = clears _ _ _ _ c.in_ok-sheet.ensures _ c.without_names.ensures
