-- A piece in two parts: what is held, the line, the sheet and the text after both are those after the second, from what the first left.
-- By induction over the first part. Then one character alone, a feed or another, and how much of a piece that begins with it is used.
-- Assumes nothing.
use Prim.Native.Nat.{ℕ, ◌+◌}
use mathlib.Core.Path.{◌≡◌, refl, sym, ◌∙◌}
use mathlib.Core.Bool.{true, false}
use mathlib.Core.List.{List, [], ◌∷◌, ◌++◌, append-nil, append_assoc}
use mathlib.Core.Logic.{⊎_elim}
use lib.Dec.{eqb, leb}
use lib.ListN.{length, set, length-set}
use borrow.Author.Tests.{ne_eqb}
use Rattle.laws.proofs.Tests.{by_bool}
use Rattle.sheet.specs.declared.Sheet.{Sheet}
use Rattle.session.specs.Lines.{spelled}
use Rattle.session.specs.Answering.{sheet_text, sheet_next, most_text}
use Rattle.stream.specs.Stream.{held_with, held_after_piece, line_after_piece, sheet_after_piece, piece_text, used_in_line, used_of}

pub held_app : (h t u : List ℕ) → held_after_piece h (t ++ u) ≡ held_after_piece (held_after_piece h t) u
unfolding held_after_piece
held_app h [] u = refl
held_app h (c ∷ t) u =
    ⊎_elim
    (λ (e : eqb c 10 ≡ true). rw e (held_app [] t u))
    (λ (e : eqb c 10 ≡ false). rw e (held_app (held_with h c) t u))
    (by_bool (eqb c 10))

pub line_app : (l h t u : List ℕ) → line_after_piece l h (t ++ u) ≡ line_after_piece (line_after_piece l h t) (held_after_piece h t) u
unfolding line_after_piece held_after_piece
line_app l h [] u = refl
line_app l h (c ∷ t) u =
    ⊎_elim
    (λ (e : eqb c 10 ≡ true). rw e (line_app l [] t u))
    (λ (e : eqb c 10 ≡ false).
    rw e (line_app (set l (length h) c) (held_with h c) t u))
    (by_bool (eqb c 10))

pub sheet_app : (s : Sheet) (h t u : List ℕ) → sheet_after_piece s h (t ++ u) ≡ sheet_after_piece (sheet_after_piece s h t) (held_after_piece h t) u
unfolding sheet_after_piece held_after_piece
sheet_app s h [] u = refl
sheet_app s h (c ∷ t) u =
    ⊎_elim
    (λ (e : eqb c 10 ≡ true). rw e (sheet_app (sheet_next s (spelled h)) [] t u))
    (λ (e : eqb c 10 ≡ false). rw e (sheet_app s (held_with h c) t u))
    (by_bool (eqb c 10))

pub text_app : (s : Sheet) (h t u : List ℕ)
    → piece_text s h (t ++ u) ≡ piece_text s h t ++ piece_text (sheet_after_piece s h t) (held_after_piece h t) u
unfolding piece_text sheet_after_piece held_after_piece
text_app s h [] u = refl
text_app s h (c ∷ t) u =
    ⊎_elim
    (λ (e : eqb c 10 ≡ true).
    rw e
    (rw (text_app (sheet_next s (spelled h)) [] t u)
    (sym
    (append_assoc (sheet_text s (spelled h))
    (piece_text (sheet_next s (spelled h)) [] t)
    (piece_text (sheet_after_piece (sheet_next s (spelled h)) [] t) (held_after_piece [] t) u)))))
    (λ (e : eqb c 10 ≡ false). rw e (text_app s (held_with h c) t u))
    (by_bool (eqb c 10))

-- ---- a line feed
pub held_feed : (h : List ℕ) → held_after_piece h (10 ∷ []) ≡ []
unfolding held_after_piece
held_feed h = refl

pub line_feed_lem : (l h : List ℕ) → line_after_piece l h (10 ∷ []) ≡ l
unfolding line_after_piece
line_feed_lem l h = refl

pub used_feed : (room : ℕ) (s : Sheet) (h : List ℕ) (at : ℕ) (u : List ℕ)
    → used_in_line room s h at (10 ∷ u) ≡ 1 + used_of room (sheet_next s (spelled h)) [] (at + length (sheet_text s (spelled h))) u
unfolding used_in_line used_of
used_feed room s h at u = refl

pub sheet_feed : (s : Sheet) (h : List ℕ) → sheet_after_piece s h (10 ∷ []) ≡ sheet_next s (spelled h)
unfolding sheet_after_piece
sheet_feed s h = refl

pub text_feed : (s : Sheet) (h : List ℕ) → piece_text s h (10 ∷ []) ≡ sheet_text s (spelled h)
unfolding piece_text
text_feed s h = append-nil (sheet_text s (spelled h))

-- ---- another character
pub held_char : (h : List ℕ) (b : ℕ) → (b ≡ 10 → ⊥) → held_after_piece h (b ∷ []) ≡ held_with h b
unfolding held_after_piece
held_char h b e = rw (ne_eqb b 10 e)

pub line_char : (l h : List ℕ) (b : ℕ) → (b ≡ 10 → ⊥) → line_after_piece l h (b ∷ []) ≡ set l (length h) b
unfolding line_after_piece
line_char l h b e = rw (ne_eqb b 10 e)

pub used_char : (room : ℕ) (s : Sheet) (h : List ℕ) (at b : ℕ) (u : List ℕ) → (b ≡ 10 → ⊥)
    → used_in_line room s h at (b ∷ u) ≡ 1 + used_in_line room s (held_with h b) at u
unfolding used_in_line
used_char room s h at b u e = rw (ne_eqb b 10 e)

pub sheet_char : (s : Sheet) (h : List ℕ) (b : ℕ) → (b ≡ 10 → ⊥) → sheet_after_piece s h (b ∷ []) ≡ s
unfolding sheet_after_piece
sheet_char s h b e = rw (ne_eqb b 10 e)

pub text_char : (s : Sheet) (h : List ℕ) (b : ℕ) → (b ≡ 10 → ⊥) → piece_text s h (b ∷ []) ≡ []
unfolding piece_text
text_char s h b e = rw (ne_eqb b 10 e)

-- ---- no character
pub text_nil : (s : Sheet) (h : List ℕ) → piece_text s h [] ≡ []
unfolding piece_text
text_nil s h = refl

pub sheet_nil : (s : Sheet) (h : List ℕ) → sheet_after_piece s h [] ≡ s
unfolding sheet_after_piece
sheet_nil s h = refl

pub held_nil : (h : List ℕ) → held_after_piece h [] ≡ h
unfolding held_after_piece
held_nil h = refl

pub line_nil : (l h : List ℕ) → line_after_piece l h [] ≡ l
unfolding line_after_piece
line_nil l h = refl

pub used_nil : (room : ℕ) (s : Sheet) (h : List ℕ) (at : ℕ) → used_of room s h at [] ≡ 0
unfolding used_in_line used_of
used_nil room s h at =
    ⊎_elim
    (λ (e : leb (at + most_text) room ≡ true). rw e)
    (λ (e : leb (at + most_text) room ≡ false). rw e)
    (by_bool (leb (at + most_text) room))

-- ---- room for an answer, or none
pub used_room : (room : ℕ) (s : Sheet) (h : List ℕ) (at : ℕ) (t : List ℕ) → leb (at + most_text) room ≡ true
    → used_of room s h at t ≡ used_in_line room s h at t
unfolding used_of
used_room room s h at t e = rw e

pub used_stop : (room : ℕ) (s : Sheet) (h : List ℕ) (at : ℕ) (t : List ℕ) → leb (at + most_text) room ≡ false → used_of room s h at t ≡ 0
unfolding used_of
used_stop room s h at t e = rw e

-- ---- a lent line keeps its places
pub line_long : (l h t : List ℕ) → length (line_after_piece l h t) ≡ length l
unfolding line_after_piece
line_long l h [] = refl
line_long l h (c ∷ t) =
    ⊎_elim
    (λ (e : eqb c 10 ≡ true). rw e (line_long l [] t))
    (λ (e : eqb c 10 ≡ false). rw e (line_long (set l (length h) c) (held_with h c) t ∙ length-set l (length h) c))
    (by_bool (eqb c 10))
