-- What the steps of `answer_all` and of `answer` need. A line's text is put behind those of the lines before it, and what is left are
-- the texts of the lines behind it (`all_more`); the claim over lines makes the sheet's texts those of the journal (`all_start`). The
-- measuring pass counts the text, so that its count tells whether there is room. Assumes nothing.
use Prim.Native.Nat.{ℕ, ◌<◌, ◌≤◌}
use mathlib.Core.Path.{◌≡◌, ap, ◌∙◌}
use mathlib.Core.Bool.{true, false}
use mathlib.Core.List.{List, [], ◌∷◌, ◌++◌, flatten}
use mathlib.Core.Logic.{⊎_elim}
use lib.Dec.{ltb, leb}
use lib.ListN.{length}
use lib.Seq.{sets, length-sets}
use native.Mathlib.Omega.{arith}
use borrow.Author.Tests.{lt-ltb, le-ltb, le-leb, lt-leb, leb-true}
use Rattle.text.specs.declared.Writer.{Writer}
use Rattle.text.specs.Put.{Put, Writes}
use Rattle.laws.proofs.Tests.{both, by_bool, by_order}
use Rattle.text.proofs.Laws as text
use Rattle.sheet.specs.declared.Sheet.{Sheet}
use Rattle.sheet.specs.Sheet.{fresh_sheet}
use Rattle.session.specs.Lines.{spelled}
use Rattle.session.specs.Answering.{sheet_text, sheet_next, sheet_texts, Answers}
use Rattle.session.proofs.Claim.{lines_claim}
use Rattle.std.specs.Prelude.{Option, Some, None}
use Rattle.script.specs.Script.{lines_from, lines_of, script_text, room_for, answered_with, buffer_with}

-- what is left to put from a place of the script on
abbrev pub rest_text : Sheet → List ℕ → List ℕ
rest_text sheet s = flatten (sheet_texts sheet (lines_from [] s))

-- ---- a turn of `answer_all`: one more line of what is left
first_text_lem : (sheet : Sheet) (s l t : List ℕ) → lines_from [] s ≡ l ∷ lines_from [] t
    → rest_text sheet s ≡ sheet_text sheet (spelled l) ++ rest_text (sheet_next sheet (spelled l)) t
unfolding flatten sheet_texts
first_text_lem sheet s l t e = rw e

pub all_more : {w₀ w w₁ : Writer} {all : List ℕ} (sheet sheet₁ : Sheet) (s l t : List ℕ) → lines_from [] s ≡ l ∷ lines_from [] t
    → text.Going w₀ all w (rest_text sheet s) → Answers sheet (spelled l) w w₁ sheet₁ → text.Going w₀ all w₁ (rest_text sheet₁ t)
all_more sheet sheet₁ s l t e g p =
    rw p.left (text.going_on (rw (first_text_lem sheet s l t e) at g) (text.all_of p.written))

pub all_start : (w : Writer) (s : List ℕ) (sheet : Sheet) → sheet ≡ fresh_sheet → w.at ≤ 18446744073709551615 → length w.out.now ≤ 18446744073709551615
    → text.Going w (script_text s) w (rest_text sheet s)
unfolding script_text
all_start w s sheet e h g = rw (e, lines_claim (lines_of s)) (text.going_start w (script_text s) h g)

pub all_done : {w₀ w : Writer} {all : List ℕ} (s : List ℕ) (sheet : Sheet) → length s ≡ 0 → text.Going w₀ all w (rest_text sheet s) → Writes w₀ all w
unfolding flatten sheet_texts lines_from
all_done [] sheet h g = text.going_end g
all_done (c ∷ s) sheet h g = absurd (omega arith)

-- ---- `answer`: n is what the measuring pass, over other bytes, counts of the text t
without_room : (t o : List ℕ) → room_for t o ≡ false → (◌≡◌ {A = Option ℕ} None (answered_with t o)) × (o ≡ buffer_with t o)
unfolding answered_with buffer_with
without_room t o e = (rw e, rw e)

module _ (t o z z₁ : List ℕ) (n : ℕ) (p : Put z 0 t z₁ n) where
  pub answer_uncounted : n ≡ 18446744073709551615 → (◌≡◌ {A = Option ℕ} None (answered_with t o)) × (o ≡ buffer_with t o)
  answer_uncounted e = without_room t o (rw (le-ltb (length t) 18446744073709551615 (omega (arith, p.place))))

  module _ (e : n ≡ 18446744073709551615 → ⊥) where
    counted : length t < 18446744073709551615
    counted =
        ⊎_elim
        (λ g. g)
        (λ (g : 18446744073709551615 ≤ length t). absurd (e (omega (arith, p.place))))
        (by_order (length t) 18446744073709551615)

    -- below the largest usize the count is the length
    exact : n ≡ length t
    exact = omega (arith, p.place, counted)

    pub answer_short : length o < n → (◌≡◌ {A = Option ℕ} None (answered_with t o)) × (o ≡ buffer_with t o)
    answer_short h =
        without_room t o (rw (lt-ltb (length t) 18446744073709551615 counted) (lt-leb (length t) (length o) (omega (arith, exact, h))))

    pub answer_fits : n ≤ length o → {o₁ : List ℕ} {m : ℕ} → Put o 0 t o₁ m → (Some n ≡ answered_with t o) × (o₁ ≡ buffer_with t o)
    unfolding answered_with buffer_with
    answer_fits h q =
        let room : room_for t o ≡ true =
        rw (lt-ltb (length t) 18446744073709551615 counted) (le-leb (length t) (length o) (omega (arith, exact, h))) in
        (rw (room, exact), rw room q.laid)

-- for a caller of `answer`: a text that was written has its length in the buffer
pub fits : (t o o₁ : List ℕ) (n : ℕ) → Some n ≡ answered_with t o → o₁ ≡ buffer_with t o → n ≤ length o₁
unfolding answered_with buffer_with
fits t o o₁ n e f =
    ⊎_elim
    (λ (h : room_for t o ≡ true).
    let k : Some n ≡ Some (length t) = e ∙ rw h in
    let l : n ≡ length t = cc in
    let m : length t ≤ length o = leb-true (length t) (length o) (both (ltb (length t) 18446744073709551615) (leb (length t) (length o)) h).1 in
    let g : o₁ ≡ sets o 0 t = f ∙ rw h in
    let p : length o₁ ≡ length o = ap length g ∙ length-sets o 0 t in
    omega arith)
    (λ (h : room_for t o ≡ false).
    let k : Some n ≡ None = e ∙ rw h in
    let y : ◌≡◌ {A = ℕ} 0 1 = cc in
    absurd (omega arith))
    (by_bool (room_for t o))
