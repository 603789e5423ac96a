-- The claim of streaming. Of calls one after the other, the sheet, the held line and the text are those after all that they used
-- (`so_far`); and a script in one piece is answered as its lines are, since what a line spells does not depend on what comes after
-- 4,097 characters of it (`whole`, by induction over the characters, from `line_cut_lem`). The lines are answered as the journal says
-- (`lines_claim`). Then that what `feed` promises determines its outcome: first what is used, then all else. Assumes nothing.
use Prim.Native.Nat.{ℕ, ◌+◌, ◌-◌, ◌<◌, ◌≤◌}
use mathlib.Core.Path.{◌≡◌, refl, sym, ap, ◌∙◌, subst}
use mathlib.Core.Bool.{true, false}
use mathlib.Core.List.{List, [], ◌∷◌, ◌++◌, append-nil, append_assoc, flatten}
use mathlib.Core.Logic.{⊎_elim}
use lib.Dec.{eqb}
use lib.ListN.{length, take, drop, length-take}
use lib.Seq.{sets-eq, take_at, drop_at, take_all, take-append-le, length-take-le, take-nil}
use native.Mathlib.Omega.{arith}
use borrow.Author.Tests.{ne_eqb, lt-leb}
use Rattle.laws.proofs.Tests.{by_bool, by_order}
use Rattle.text.specs.Put.{Put}
use Rattle.text.proofs.Laws.{put_room}
use Rattle.sheet.specs.declared.Sheet.{Sheet}
use Rattle.sheet.specs.Sheet.{fresh_sheet}
use Rattle.session.specs.Lines.{spelled}
use Rattle.session.specs.Answering.{most_text, sheet_text, sheet_next, sheet_texts}
use Rattle.session.proofs.Claim.{lines_claim}
use Rattle.session.proofs.Laws.{line_cut_lem}
use Rattle.script.specs.Script.{lines_from, script_text}
use Rattle.stream.specs.declared.Fed.{Fed}
use Rattle.stream.specs.Stream.{line_room, held_with, held_after_piece, sheet_after_piece, piece_text, last_text, Taken, Feeds}
use Rattle.stream.specs.Claim.{between, FedCalls, none_yet, one_more, StreamClaim, OneOutcome}
use Rattle.stream.proofs.Pieces.{held_app, sheet_app, text_app, held_nil, sheet_nil, text_nil, used_stop}

-- ---- a script in one piece
take_kept : (c : ℕ) (l : List ℕ) → take line_room (l ++ (c ∷ [])) ≡ held_with (take line_room l) c
take_kept c l =
    ⊎_elim
    (λ (h : length l < line_room). rw (take_all line_room l (omega arith)))
    (λ (h : line_room ≤ length l).
    let e : length (take line_room l) ≡ line_room = length-take-le line_room l h in
    rw (take-append-le line_room l (c ∷ []) h, take-append-le line_room (take line_room l) (c ∷ []) (omega arith), take_all line_room (take line_room l) (omega arith)))
    (by_order (length l) line_room)

-- what is held of a line spells what the line spells
cut : (line : List ℕ) → spelled (take line_room line) ≡ spelled line
cut line = line_cut_lem line

ended : (s : Sheet) (l : List ℕ) → flatten (sheet_texts s (lines_from l [])) ≡ last_text s (take line_room l)
unfolding flatten sheet_texts lines_from last_text
ended s [] = rw (take-nil {A = ℕ} line_room)
ended s (c ∷ l) =
    let e : eqb (length (take line_room (c ∷ l))) 0 ≡ false =
    ne_eqb (length (take line_room (c ∷ l))) 0 (λ z. omega (arith, length-take line_room (c ∷ l))) in
    rw (ne_eqb (length (c ∷ l)) 0 (λ z. omega arith), e, cut (c ∷ l)) (append-nil (sheet_text s (spelled (c ∷ l))))

-- what comes after the characters `l` of a line
whole : (t l : List ℕ) (s : Sheet)
    → flatten (sheet_texts s (lines_from l t))
    ≡ piece_text s (take line_room l) t ++ last_text (sheet_after_piece s (take line_room l) t) (held_after_piece (take line_room l) t)
unfolding flatten sheet_texts lines_from piece_text sheet_after_piece held_after_piece
whole [] l s = ended s l
whole (c ∷ t) l s =
    ⊎_elim
    (λ (e : eqb c 10 ≡ true).
    let s₁ : Sheet = sheet_next s (spelled l) in
    let z : flatten (sheet_texts s₁ (lines_from [] t)) ≡ piece_text s₁ [] t ++ last_text (sheet_after_piece s₁ [] t) (held_after_piece [] t) =
    rw (take-nil {A = ℕ} line_room) at (whole t [] s₁) in
    rw (e, cut l, z)
    (sym (append_assoc (sheet_text s (spelled l)) (piece_text s₁ [] t) (last_text (sheet_after_piece s₁ [] t) (held_after_piece [] t)))))
    (λ (e : eqb c 10 ≡ false). rw (e, ← take_kept c l) (whole t (l ++ (c ∷ [])) s))
    (by_bool (eqb c 10))

one_piece : (script : List ℕ)
    → piece_text fresh_sheet [] script ++ last_text (sheet_after_piece fresh_sheet [] script) (held_after_piece [] script) ≡ script_text script
unfolding script_text
one_piece script =
    sym (rw (take-nil {A = ℕ} line_room) at (whole script [] fresh_sheet)) ∙ ap flatten (lines_claim (lines_from [] script))

-- ---- calls one after the other
-- a text that has found room in a buffer lies between its place and the next
laid_between : {o t o₁ : List ℕ} {a a₁ : ℕ} → Put o a t o₁ a₁ → a + length t ≤ length o → between a a₁ o₁ ≡ t
laid_between {o} {t} {o₁} {a} {a₁} p f =
    let k : a₁ - a ≡ length t = omega (arith, put_room p f) in
    let e : o₁ ≡ take a o ++ (t ++ drop (a + length t) o) =
    p.laid ∙ sets-eq t o a f ∙ append_assoc (take a o) t (drop (a + length t) o) in
    let d : drop a (take a o ++ (t ++ drop (a + length t) o)) ≡ t ++ drop (a + length t) o =
    drop_at (take a o) (t ++ drop (a + length t) o) a (length-take-le a o (omega arith)) in
    rw (k, e, d) (take_at t (drop (a + length t) o) (length t) refl)

-- so does what a call wrote: from a place past the buffer's end it uses nothing
written : {s : Sheet} {l h input o o₁ l₁ : List ℕ} {a : ℕ} {r : Fed} → Feeds s l h input o a o₁ l₁ r
    → between a r.at o₁ ≡ piece_text s h (take r.used input)
written {s} {l} {h} {input} {o} {o₁} {l₁} {a} {r} p =
    ⊎_elim
    (λ (g : length o < a).
    let z : r.used ≡ 0 = p.used_is ∙ used_stop (length o) s h a input (lt-leb (a + most_text) (length o) (omega arith)) in
    let e : piece_text s h (take r.used input) ≡ [] = rw z (text_nil s h) in
    let k : r.at - a ≡ 0 = omega (arith, p.put.place, ap length e) in
    rw (k, e))
    (λ (g : a ≤ length o). laid_between p.put (p.none_cut g))
    (by_order (length o) a)

record SoFar (script text : List ℕ) (s : Sheet) (h : List ℕ) : Type 0 where
  texts : text ≡ piece_text fresh_sheet [] script
  sheet : s ≡ sheet_after_piece fresh_sheet [] script
  held : h ≡ held_after_piece [] script

so_far : {script text line : List ℕ} {s : Sheet} {held : ℕ} → FedCalls script text s line held → SoFar script text s (take held line)
so_far (none_yet line) =
    record { texts = sym (text_nil fresh_sheet []); sheet = sym (sheet_nil fresh_sheet []); held = sym (held_nil []) }
so_far (one_more {script} {text} {line} {s} {held} input before at after line₁ r calls p) =
    let q : SoFar script text s (take held line) = so_far calls in
    let u : List ℕ = take r.used input in
    let w : between at r.at after ≡ piece_text s (take held line) u = written p in
    record {
      texts = rw (w, q.texts, q.sheet, q.held) (sym (text_app fresh_sheet [] script u));
      sheet = p.taken.sheet_after ∙ rw (q.sheet, q.held) (sym (sheet_app fresh_sheet [] script u));
      held = p.taken.holding.held_after ∙ rw q.held (sym (held_app [] script u));
    }

pub stream_claim : StreamClaim
stream_claim script text line s held before at after next calls room p =
    let q : SoFar script text s (take held line) = so_far calls in
    let w : between at next after ≡ last_text s (take held line) = laid_between p.put (omega (arith, room, p.short)) in
    rw (w, q.texts, q.sheet, q.held) (one_piece script)

-- ---- one outcome: what is used, then the sheet, both buffers, the place, and how much is held
fed_one : {r r₁ : Fed} → r.sheet ≡ r₁.sheet → r.held ≡ r₁.held → r.at ≡ r₁.at → r.used ≡ r₁.used → r ≡ r₁
fed_one e f g h i = record { sheet = e i; held = f i; at = g i; used = h i }

pub one_outcome : OneOutcome
one_outcome s line h input before at after line₁ r after₂ line₂ r₂ p q =
    let e : r.used ≡ r₂.used = p.used_is ∙ sym q.used_is in
    let t : Taken s line h (take r₂.used input) r.sheet line₁ r.held =
    subst (λ (k : ℕ). Taken s line h (take k input) r.sheet line₁ r.held) e p.taken in
    let w : Put before at (piece_text s h (take r₂.used input)) after r.at =
    subst (λ (k : ℕ). Put before at (piece_text s h (take k input)) after r.at) e p.put in (
      w.laid ∙ sym q.put.laid,
      t.holding.line_after ∙ sym q.taken.holding.line_after,
      fed_one
          (t.sheet_after ∙ sym q.taken.sheet_after)
          (t.holding.held_count ∙ sym q.taken.holding.held_count)
          (w.place ∙ sym q.put.place)
          e,
    )
