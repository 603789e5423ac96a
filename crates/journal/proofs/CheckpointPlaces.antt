-- The places of a workspace beside the names of its journal: one walk along the places in use gives the place of a name, what is kept
-- under it, and what a keep makes of the list. Assumes nothing.
use Rattle.std.specs.Prelude.{Some, None}
use Prim.Native.Nat.{ℕ, zero, suc, ◌<◌, ◌≤◌}
use mathlib.Core.Bool.{Bool, true, false, cond}
use mathlib.Core.List.{List, [], ◌∷◌, ◌++◌, map}
use mathlib.Core.Path.{◌≡◌, refl, sym, ap}
use lib.ListN.{get_or, length, take, set, replicate}
use lib.Seq.{take-append_seam}
use native.Mathlib.Omega.{arith}
use borrow.Author.Tests.{le-leb}
use Rattle.numbers.specs.Bytes.{same}
use Rattle.workspace.specs.declared.Checkpoint.{Checkpoint}
use Rattle.workspace.specs.Names.{in_places, holds_name}
use Rattle.sheet.specs.Sheet.{no_edits}
use Rattle.workspace.specs.Workspace.{no_checkpoint, blank_checkpoint, place_among}
use Rattle.journal.specs.WorkspaceJournal.{NamedEdits, kept_under, keep_under}
use Rattle.journal.proofs.Placed.{row_at}

-- what a checkpoint keeps
abbrev pub kept_of : Checkpoint → NamedEdits
kept_of p = record { name = take p.len p.name; edits = row_at p.row.edits p.row.count }

-- what holds of every place after calls
pub record Fine (p : Checkpoint) : Type 0 where
  pub short : p.len ≤ 16
  pub stands : p.row.count ≤ 64
  pub roomy : length p.row.edits ≡ 64

pub data AllFine : List Checkpoint → Type 0 where
  nil : AllFine []
  cons : {p : Checkpoint} {ps : List Checkpoint} → Fine p → AllFine ps → AllFine (p ∷ ps)

pub fine_set : (ps : List Checkpoint) (i : ℕ) (x : Checkpoint) → AllFine ps → Fine x → AllFine (set ps i x)
fine_set [] i x a f = nil
fine_set (p ∷ ps) zero x (cons g a) f = cons f a
fine_set (p ∷ ps) (suc i) x (cons g a) f = cons g (fine_set ps i x a f)

pub fine_take : (ps : List Checkpoint) (k : ℕ) → AllFine ps → AllFine (take k ps)
fine_take ps zero a = nil
fine_take [] (suc k) a = nil
fine_take (p ∷ ps) (suc k) (cons g a) = cons g (fine_take ps k a)

pub fine_at : (ps : List Checkpoint) (i : ℕ) → AllFine ps → i < length ps → Fine (get_or ps i no_checkpoint)
fine_at [] i a h = absurd (omega arith)
fine_at (p ∷ ps) zero (cons g a) h = g
fine_at (p ∷ ps) (suc i) (cons g a) h = fine_at ps i a (omega arith)

blank_fine : Fine blank_checkpoint
unfolding blank_checkpoint no_edits
blank_fine = record { short = omega arith; stands = omega arith; roomy = refl }

fine_blanks : (n : ℕ) → AllFine (replicate n blank_checkpoint)
fine_blanks zero = nil
fine_blanks (suc n) = cons blank_fine (fine_blanks n)

pub fresh_fine : AllFine (replicate 8 blank_checkpoint)
fresh_fine = fine_blanks 8

-- ---- a name in 16 places reads back
pub reads_back : (name : List ℕ) → take (length name) (in_places name) ≡ name
unfolding in_places
reads_back name = take-append_seam name _

named_same : (name : List ℕ) (p : Checkpoint) → Fine p → holds_name name p.name p.len ≡ same (kept_of p).name name
unfolding holds_name
named_same name p f = rw (le-leb p.len 16 f.short)

-- ---- what the walk finds
pub data Found (name : List ℕ) (ps : List Checkpoint) (at : ℕ) : Type 0 where
  there : at < length ps
      → kept_under name (map kept_of ps) ≡ Some (kept_of (get_or ps at no_checkpoint)).edits
      → ((x : Checkpoint) → (kept_of x).name ≡ name → map kept_of (set ps at x) ≡ keep_under name (kept_of x).edits (map kept_of ps))
      → Found name ps at
  absent : at ≡ length ps
      → kept_under name (map kept_of ps) ≡ None
      → ((x : Checkpoint) → (kept_of x).name ≡ name → map kept_of (ps ++ x ∷ []) ≡ keep_under name (kept_of x).edits (map kept_of ps))
      → Found name ps at

kept_is : (x : Checkpoint) (name : List ℕ) → (kept_of x).name ≡ name → kept_of x ≡ record { name = name; edits = (kept_of x).edits }
kept_is x name e = ap (λ (m : List ℕ). record { name = m; edits = (kept_of x).edits }) e

pub find : (name : List ℕ) (ps : List Checkpoint) → AllFine ps → Found name ps (place_among name ps)
unfolding place_among kept_under keep_under
find name [] nil = absent refl refl (λ x e. ap (λ (k : NamedEdits). k ∷ []) (kept_is x name e))
find name (p ∷ ps) (cons f a) = by (holds_name name p.name p.len) (sym (named_same name p f)) (find name ps a)
  where
    by : (b : Bool) → same (kept_of p).name name ≡ b → Found name ps (place_among name ps)
        → Found name (p ∷ ps) (cond b 0 (suc (place_among name ps)))
    by true e g = there (omega arith) (rw e) (λ x d. rw e (ap (λ (k : NamedEdits). k ∷ map kept_of ps) (kept_is x name d)))
    by false e (there h r s) =
        there (omega arith) (rw e r) (λ x d. rw e (ap (λ (ks : List NamedEdits). kept_of p ∷ ks) (s x d)))
    by false e (absent h r s) =
        absent (omega arith) (rw e r) (λ x d. rw e (ap (λ (ks : List NamedEdits). kept_of p ∷ ks) (s x d)))
