-- Laws of the contracts: what is held grows by a character (`char_more`); characters, then a line, then lines one after the other are
-- taken as the one piece that they make up (`taken_join`); while there is room for an answer the text of a line finds room
-- (`rest_more`), so that no answer is cut, and else no line is begun (`rest_stops`); and feeding gets on where the buffer has room for
-- one answer (`progress`). Assumes nothing.
use Prim.Native.Nat.{ℕ, zero, suc, ◌+◌, ◌-◌, ◌<◌, ◌≤◌, min}
use mathlib.Core.Path.{◌≡◌, refl, sym, ap, ◌∙◌}
use mathlib.Core.Bool.{Bool, true, false, not, false≢true}
use mathlib.Core.List.{List, [], ◌∷◌, ◌++◌, append-nil, append_assoc}
use mathlib.Core.Logic.{⊎_elim, ◌⊎◌, inl, inr}
use lib.Dec.{eqb, leb}
use lib.ListN.{length, take, drop, get_or, set, length-append, length-drop, length-set, take-append-drop, drop_of_length-le}
use lib.Seq.{sets, length-sets, set_out, take-suc, take_all, take-add, take-suc-set, take-append-le, length-take-le, drop-cons, drop-drop}
use native.Mathlib.Omega.{arith}
use native.Mathlib.Nat.{add-zero, zero-add, add_assoc}
use native.Mathlib.Numerals.{add-one}
use borrow.Author.Tests.{eqb-true, ne_eqb, leb-true, leb-false, le-leb, lt-leb, lt-ltb, le-ltb}
use Rattle.text.specs.Put.{Put}
use Rattle.std.specs.Bool.{◌==◌}
use Rattle.std.specs.List.{position, position_or_len}
use Rattle.std.specs.Option.{unwrap_or}
use Rattle.std.proofs.lemmas.List.Sums.{prefix_len-le-length, prefix_len_passes, prefix_len_stops}
use Rattle.laws.proofs.Tests.{by_bool, by_order}
use Rattle.laws.proofs.Lists.{sets_append}
use Rattle.text.proofs.Laws.{put_none, put_same, put_room, join}
use Rattle.sheet.specs.declared.Sheet.{Sheet}
use Rattle.session.specs.Lines.{spelled}
use Rattle.session.specs.Answering.{sheet_text, sheet_next, most_text}
use Rattle.stream.specs.declared.Fed.{Fed}
use Rattle.stream.specs.Stream.{line_room, held_with, held_after_piece, line_after_piece, sheet_after_piece, piece_text, used_in_line, used_of, last_text, Holding, Taken, Feeds, Ends}
use Rattle.stream.specs.Inside.{CharKept, CharsTaken, RunTaken, LineTaken}
use Rattle.stream.proofs.Pieces.{held_app, line_app, sheet_app, text_app, held_feed, line_feed_lem, sheet_feed, text_feed, used_feed, held_char, line_char, sheet_char, text_char, used_char, held_nil, line_nil, sheet_nil, text_nil, used_nil, used_room, used_stop, line_long}

-- ---- room for an answer
pub room_left : (len at : ℕ) → leb most_text (len - at) ≡ leb (at + most_text) len
room_left len at =
    ⊎_elim
    (λ (g : len < at + most_text). rw (lt-leb most_text (len - at) (omega arith), lt-leb (at + most_text) len g))
    (λ (g : at + most_text ≤ len). rw (le-leb most_text (len - at) (omega arith), le-leb (at + most_text) len g))
    (by_order len (at + most_text))

-- ---- one more character is held, or the line is full
counted : (l h : List ℕ) (n : ℕ) → take n l ≡ h → n ≤ length l → n ≡ length h
counted l h n e f = sym (length-take-le n l f) ∙ ap length e

module _ (l : List ℕ) (n b : ℕ) (e : length l ≡ line_room) where
  take_kept : n < length l → take (n + 1) (set l n b) ≡ held_with (take n l) b
  take_kept f =
      let g : length (take n l ++ (b ∷ [])) ≤ line_room = omega (arith, e, length-append (take n l) (b ∷ []), length-take-le n l (omega arith)) in
      rw (add-one, take-suc-set l n b (omega arith), take_all line_room (take n l ++ (b ∷ [])) g)

  pub char_stored : n < length l → CharKept l n b (set l n b) (n + 1)
  char_stored f =
      record {
        line_after = refl;
        held_after = take_kept f;
        held_count = counted (set l n b) (held_with (take n l) b) (n + 1) (take_kept f) (omega (arith, length-set l n b));
      }

  take_full : length l ≤ n → take n l ≡ held_with (take n l) b
  take_full f =
      rw (take_all n l (omega arith), take-append-le line_room l (b ∷ []) (omega arith), take_all line_room l (omega arith))

  pub char_dropped : length l ≤ n → n ≤ line_room → CharKept l n b l n
  char_dropped f g =
      record {
        line_after = sym (set_out l n b (omega arith));
        held_after = take_full f;
        held_count = counted l (held_with (take n l) b) n (take_full f) (omega arith);
      }

-- ---- characters `t`, and `u` from what they left
holding_none : (l : List ℕ) (n : ℕ) → length (take n l) ≡ n → Holding l (take n l) [] l n
holding_none l n e =
    record {
      line_after = sym (line_nil l (take n l));
      held_after = sym (held_nil (take n l));
      held_count = rw (held_nil (take n l)) (sym e);
    }

pub taken_none : (s : Sheet) (l : List ℕ) (n : ℕ) → length (take n l) ≡ n → Taken s l (take n l) [] s l n
taken_none s l n e = record { sheet_after = sym (sheet_nil s (take n l)); holding = holding_none l n e }

module _ {l₀ h t l : List ℕ} {n : ℕ} (p : Holding l₀ h t l n) where
  pub held_long : length (take n l) ≡ n
  held_long = ap length p.held_after ∙ sym p.held_count

  pub same_length : length l ≡ length l₀
  same_length = ap length p.line_after ∙ line_long l₀ h t

  module _ (u : List ℕ) where
    then_held : held_after_piece (take n l) u ≡ held_after_piece h (t ++ u)
    then_held = rw (p.held_after, held_app h t u)

    then_line : line_after_piece l (take n l) u ≡ line_after_piece l₀ h (t ++ u)
    then_line = rw (p.held_after, p.line_after, line_app l₀ h t u)

    module _ {s₁ : Sheet} (s : Sheet) (e : s₁ ≡ sheet_after_piece s h t) where
      then_sheet : sheet_after_piece s₁ (take n l) u ≡ sheet_after_piece s h (t ++ u)
      then_sheet = rw (p.held_after, e, sheet_app s h t u)

      then_text : piece_text s h t ++ piece_text s₁ (take n l) u ≡ piece_text s h (t ++ u)
      then_text = rw (p.held_after, e, text_app s h t u)

  holding_join : {u l₁ : List ℕ} {n₁ : ℕ} → Holding l (take n l) u l₁ n₁ → Holding l₀ h (t ++ u) l₁ n₁
  holding_join {u} q =
      record {
        line_after = q.line_after ∙ then_line u;
        held_after = q.held_after ∙ then_held u;
        held_count = q.held_count ∙ ap length (then_held u);
      }

pub taken_join : {s s₁ s₂ : Sheet} {l₀ h t l u l₁ : List ℕ} {n n₁ : ℕ} → Taken s l₀ h t s₁ l n → Taken s₁ l (take n l) u s₂ l₁ n₁
    → Taken s l₀ h (t ++ u) s₂ l₁ n₁
taken_join {s} {u = u} p q =
    record {
      sheet_after = q.sheet_after ∙ then_sheet p.holding u s p.sheet_after;
      holding = holding_join p.holding q.holding;
    }

-- ---- characters of a line
pub chars_none : (l : List ℕ) (n : ℕ) → n ≤ length l → CharsTaken l (take n l) [] l n
chars_none l n f =
    record {
      holding = holding_none l n (length-take-le n l f);
      sheet_kept = λ s. sheet_nil s (take n l);
      answers_nothing = λ s. text_nil s (take n l);
      uses_all = λ room at s u. sym (zero-add (used_in_line room s (take n l) at u));
    }

module _ {l₀ h t l : List ℕ} {n : ℕ} (q : CharsTaken l₀ h t l n) where
  chars_taken : (s : Sheet) → Taken s l₀ h t s l n
  chars_taken s = record { sheet_after = sym (q.sheet_kept s); holding = q.holding }

  -- one more of them, that is no feed
  module _ {l₁ : List ℕ} {n₁ : ℕ} (b : ℕ) (other : b ≡ 10 → ⊥) (k : CharKept l n b l₁ n₁) where
    char_holding : Holding l (take n l) (b ∷ []) l₁ n₁
    char_holding =
        record {
          line_after = k.line_after ∙ sym (line_char l (take n l) b other ∙ rw (held_long q.holding));
          held_after = k.held_after ∙ sym (held_char (take n l) b other);
          held_count = k.held_count ∙ ap length (sym (held_char (take n l) b other));
        }

    char_uses : (room at : ℕ) (s : Sheet) (u : List ℕ)
        → used_in_line room s h at ((t ++ (b ∷ [])) ++ u) ≡ length (t ++ (b ∷ [])) + used_in_line room s (take n₁ l₁) at u
    char_uses room at s u =
        rw (append_assoc t (b ∷ []) u, length-append t (b ∷ []), k.held_after)
        (q.uses_all room at s (b ∷ u) ∙
        rw (used_char room s (take n l) at b u other)
        (sym (add_assoc (length t) 1 (used_in_line room s (held_with (take n l) b) at u))))

    char_more : CharsTaken l₀ h (t ++ (b ∷ [])) l₁ n₁
    char_more =
        record {
          holding = holding_join q.holding char_holding;
          sheet_kept =
              λ s.
              sym (then_sheet q.holding (b ∷ []) s (sym (q.sheet_kept s))) ∙ sheet_char s (take n l) b other;
          answers_nothing =
              λ s.
              sym (then_text q.holding (b ∷ []) s (sym (q.sheet_kept s))) ∙
              rw (q.answers_nothing s) (text_char s (take n l) b other);
          uses_all = char_uses;
        }

pub chars_more : {l₀ h l l₁ : List ℕ} {n n₁ : ℕ} (input : List ℕ) (i : ℕ) → i < length input → (get_or input i 0 ≡ 10 → ⊥)
    → CharsTaken l₀ h (take i input) l n → CharKept l n (get_or input i 0) l₁ n₁ → CharsTaken l₀ h (take (i + 1) input) l₁ n₁
chars_more input i g other q k = rw (add-one, take-suc input i 0 g) (char_more q (get_or input i 0) other k)

pub run_ends : {l₀ h l : List ℕ} (input : List ℕ) (k n : ℕ) → k ≤ length input → CharsTaken l₀ h (take k input) l n
    → (k < length input → get_or input k 0 ≡ 10) → RunTaken l₀ h input l n k
run_ends input k n f q e = record { used_part = f; chars = q; at_feed = e }

-- a run of characters, none of them its feed: the line takes as many as there is room for
module _ (l input : List ℕ) (n : ℕ) (e : length l ≡ line_room) (h : n ≤ line_room) where
  stored_on : (i : ℕ) → i < length input → set (sets l n (take i input)) (n + i) (get_or input i 0) ≡ sets l n (take (suc i) input)
  stored_on i g =
      let a : sets (sets l n (take i input)) (n + length (take i input)) (get_or input i 0 ∷ []) ≡ sets l n (take i input ++ (get_or input i 0 ∷ [])) = sets_append (take i input) (get_or input i 0 ∷ []) l n in
      rw (length-take-le i input (omega arith)) at a ∙ rw (take-suc input i 0 g)

  run_chars : (i : ℕ) → i ≤ length input → ((k : ℕ) → k < i → get_or input k 0 ≡ 10 → ⊥)
      → CharsTaken l (take n l) (take i input) (sets l n (take (min i (line_room - n)) input)) (n + min i (line_room - n))
  run_chars zero f other =
      let z : min 0 (line_room - n) ≡ 0 = omega arith in
      rw (z, add-zero n) (chars_none l n (omega (arith, e)))
  run_chars (suc i) f other =
      let q = run_chars i (omega arith) (λ k g. other k (omega arith)) in
      let s : suc i ≡ i + 1 = omega arith in
      ⊎_elim
      (λ (g : i < line_room - n).
      let m : min i (line_room - n) ≡ i = omega arith in
      let m₁ : min (suc i) (line_room - n) ≡ suc i = omega arith in
      let w : n + (i + 1) ≡ (n + i) + 1 = omega arith in
      let k = char_stored (sets l n (take i input)) (n + i) (get_or input i 0) (length-sets l n (take i input) ∙ e) (omega (arith, e, length-sets l n (take i input))) in
      rw (m₁, ← stored_on i (omega arith), s, w) (chars_more input i (omega arith) (other i (omega arith)) (rw m at q) k))
      (λ (g : line_room - n ≤ i).
      let m : min i (line_room - n) ≡ line_room - n = omega arith in
      let m₁ : min (suc i) (line_room - n) ≡ line_room - n = omega arith in
      let k = char_dropped (sets l n (take (line_room - n) input)) (n + (line_room - n)) (get_or input i 0) (length-sets l n (take (line_room - n) input) ∙ e) (omega (arith, e, length-sets l n (take (line_room - n) input))) (omega arith) in
      rw (m₁, s) (chars_more input i (omega arith) (other i (omega arith)) (rw m at q) k))
      (by_order i (line_room - n))

-- up to the first feed of a piece, or to its end
module _ (input : List ℕ) where
  abbrev feed_place : ℕ
  feed_place = position_or_len (λ (b : ℕ). b == 10) input

  feed_room : feed_place ≤ length input
  feed_room = prefix_len-le-length (λ (b : ℕ). not (b == 10)) input

  feed_found : unwrap_or (position (λ (b : ℕ). b == 10) input) (length input) ≡ feed_place
  feed_found =
      ⊎_elim
      (λ (g : feed_place < length input). rw (lt-ltb feed_place (length input) g))
      (λ (g : length input ≤ feed_place). rw (le-ltb feed_place (length input) g) (omega (arith, feed_room)))
      (by_order feed_place (length input))

  no_feed_before : (k : ℕ) → k < feed_place → get_or input k 0 ≡ 10 → ⊥
  no_feed_before k g z =
      let q = prefix_len_passes (λ (b : ℕ). not (b == 10)) input k 0 g in
      absurd (false≢true (rw z at q))

  feed_there : feed_place < length input → get_or input feed_place 0 ≡ 10
  feed_there g =
      let q = prefix_len_stops (λ (b : ℕ). not (b == 10)) input 0 g in
      ⊎_elim
      (λ (b : (get_or input feed_place 0 == 10) ≡ true). eqb-true (get_or input feed_place 0) 10 b)
      (λ (b : (get_or input feed_place 0 == 10) ≡ false). absurd (false≢true (sym (rw b at q))))
      (by_bool (get_or input feed_place 0 == 10))

  pub feed_within : (u : ℕ) → u ≡ unwrap_or (position (λ (b : ℕ). b == 10) input) (length input) → u ≤ length input
  feed_within u p = omega (arith, p, feed_found, feed_room)

pub run_taken : (l input : List ℕ) (n k u : ℕ) → length l ≡ line_room → n ≤ line_room
    → u ≡ unwrap_or (position (λ (b : ℕ). b == 10) input) (length input) → k ≡ min u (line_room - n)
    → RunTaken l (take n l) input (sets l n (take k input)) (n + k) u
run_taken l input n k u e h p r =
    let f : u ≡ feed_place input = p ∙ feed_found input in
    rw (r, f)
    (run_ends input (feed_place input) (n + min (feed_place input) (line_room - n)) (feed_room input)
    (run_chars l input n e h (feed_place input) (feed_room input) (no_feed_before input)) (feed_there input))

-- ---- a line
module _ {l₀ h t l : List ℕ} {n : ℕ} (q : CharsTaken l₀ h t l n) (s : Sheet) where
  end_text : piece_text s h (t ++ (10 ∷ [])) ≡ sheet_text s (spelled (take n l))
  end_text =
      sym (then_text q.holding (10 ∷ []) s (sym (q.sheet_kept s))) ∙ rw (q.answers_nothing s) (text_feed s (take n l))

  -- how much is used of the line, and of what comes after it
  end_uses : (room at : ℕ) (u : List ℕ)
      → used_in_line room s h at (t ++ (10 ∷ u))
      ≡ (length t + 1) + used_of room (sheet_next s (spelled (take n l))) [] (at + length (sheet_text s (spelled (take n l)))) u
  end_uses room at u =
      let next : ℕ = used_of room (sheet_next s (spelled (take n l))) [] (at + length (sheet_text s (spelled (take n l)))) u in
      q.uses_all room at s (10 ∷ u) ∙ rw (used_feed room s (take n l) at u) (sym (add_assoc (length t) 1 next))

  feed_taken : {s₁ : Sheet} → s₁ ≡ sheet_next s (spelled (take n l)) → Taken s l (take n l) (10 ∷ []) s₁ l 0
  feed_taken e =
      record {
        sheet_after = e ∙ sym (sheet_feed s (take n l));
        holding =
            record {
              line_after = sym (line_feed_lem l (take n l));
              held_after = sym (held_feed (take n l));
              held_count = ap length (sym (held_feed (take n l)));
            };
      }

-- a piece around one of its characters
cut_at : (input : List ℕ) (k b : ℕ) → k < length input → get_or input k 0 ≡ b → input ≡ take k input ++ (b ∷ drop (k + 1) input)
cut_at input k b g c = sym (rw (add-one, ← c, ← drop-cons input k 0 g) (take-append-drop k input))

-- a line that ends
pub line_ends : {s : Sheet} {l₀ h l o o₁ : List ℕ} {s₁ : Sheet} {a a₁ : ℕ} (input : List ℕ) (k n : ℕ) → k < length input → get_or input k 0 ≡ 10
    → CharsTaken l₀ h (take k input) l n → s₁ ≡ sheet_next s (spelled (take n l)) → Put o a (sheet_text s (spelled (take n l))) o₁ a₁
    → length (sheet_text s (spelled (take n l))) ≤ most_text
    → LineTaken s l₀ h input o a o₁ l (record { sheet = s₁; held = 0; at = a₁; used = k + 1 })
line_ends {s} {l₀} {h} {l} {o} {o₁} {s₁} {a} {a₁} input k n g c q left put short =
    let e : take (k + 1) input ≡ take k input ++ (10 ∷ []) = rw (add-one, take-suc input k 0 g, c) in
    record {
      taken = rw e (taken_join (chars_taken q s) (feed_taken q s left));
      put = rw (e, end_text q s) put;
      short = rw (e, end_text q s) short;
      used_part = omega arith;
      used_some = λ z. omega arith;
      used_then =
          λ room.
          rw (e, end_text q s, left)
          (ap (used_in_line room s h a) (cut_at input k 10 g c) ∙
          rw (length-take-le k input (omega arith)) at (end_uses q s room a (drop (k + 1) input)));
    }

-- a line that goes on past the piece: all of the piece is used
line_uses : {l₀ h t l input rest : List ℕ} {n k : ℕ} → CharsTaken l₀ h t l n → (room a : ℕ) (s : Sheet) → t ≡ input → rest ≡ [] → k ≡ length input
    → used_in_line room s h a input ≡ k + used_of room s (take n l) (a + length (piece_text s h t)) rest
unfolding used_in_line
line_uses {l₀} {h} {t} {l} {input} {rest} {n} {k} q room a s e f g =
    rw (f, used_nil room s (take n l) (a + length (piece_text s h t)), g, ← e) (rw (append-nil t) at (q.uses_all room a s []))

-- so it is taken
pub line_goes_on : {s : Sheet} {l₀ h l : List ℕ} (o : List ℕ) (a : ℕ) (input : List ℕ) (k n : ℕ) → k ≤ length input → length input ≤ k
    → CharsTaken l₀ h (take k input) l n → a ≤ 18446744073709551615 → length o ≤ 18446744073709551615
    → LineTaken s l₀ h input o a o l (record { sheet = s; held = n; at = a; used = k })
line_goes_on {s} o a input k n f g q x y =
    record {
      taken = chars_taken q s;
      put = rw (q.answers_nothing s) (put_none o a x y);
      short = rw (q.answers_nothing s) (omega arith);
      used_part = f;
      used_some = λ z. omega arith;
      used_then = λ room. line_uses q room a s (take_all k input g) (drop_of_length-le input g) (omega (arith, f, g));
    }

-- ---- lines one after the other: i characters of a piece are taken, from a place in the buffer all of the text has found room, and the
-- rest is to be used as from the start
pub record LinesTaken (s : Sheet) (l₀ h input o₀ : List ℕ) (a₀ : ℕ) (o l : List ℕ) (r : Fed) (i : ℕ) : Type 0 where
  pub counted : length input ≤ 18446744073709551615
  pub used_part : i ≤ length input
  pub taken : Taken s l₀ h (take i input) r.sheet l r.held
  pub put : Put o₀ a₀ (piece_text s h (take i input)) o r.at
  pub none_cut : a₀ ≤ length o₀ → a₀ + length (piece_text s h (take i input)) ≤ length o₀
  pub used_then : used_of (length o₀) s h a₀ input ≡ i + used_of (length o₀) r.sheet (take r.held l) r.at (drop i input)

lines_none : (s : Sheet) (l input o : List ℕ) (n a : ℕ)
    → length input ≤ 18446744073709551615 → n ≤ length l → a ≤ 18446744073709551615 → length o ≤ 18446744073709551615
    → LinesTaken s l (take n l) input o a o l (record { sheet = s; held = n; at = a; used = 0 }) 0
lines_none s l input o n a c h g k =
    record {
      counted = c;
      used_part = omega arith;
      taken = taken_none s l n (length-take-le n l h);
      put = rw (text_nil s (take n l)) (put_none o a g k);
      none_cut = λ z. rw (text_nil s (take n l)) (omega arith);
      used_then = sym (zero-add (used_of (length o) s (take n l) a input));
    }

-- i characters are used and a line more, of k characters, from a place that leaves room for its answer
module _ {room room₁ u : ℕ} (s s₁ : Sheet) (h h₁ input : List ℕ) (a a₁ i k : ℕ) (er : room₁ ≡ room) (f : a + most_text ≤ room) where
  uses_more : u ≡ i + used_of room s h a (drop i input)
      → used_in_line room₁ s h a (drop i input) ≡ k + used_of room₁ s₁ h₁ a₁ (drop k (drop i input))
      → u ≡ (i + k) + used_of room s₁ h₁ a₁ (drop (i + k) input)
  uses_more p q =
      let e : used_of room s h a (drop i input) ≡ used_in_line room s h a (drop i input) =
      used_room room s h a (drop i input) (le-leb (a + most_text) room f) in
      let z : used_in_line room s h a (drop i input) ≡ k + used_of room s₁ h₁ a₁ (drop (i + k) input) = rw (er, drop-drop k i input) at q in
      p ∙ rw (e, z) (sym (add_assoc i k (used_of room s₁ h₁ a₁ (drop (i + k) input))))

-- a place that leaves room for a text and a bound on a further one
room_for : (ts us : List ℕ) (a₀ a m k : ℕ) → a ≡ a₀ + length ts → a + m ≤ k → length us ≤ m → a₀ + length (ts ++ us) ≤ k
room_for ts us a₀ a m k e h f = rw (length-append ts us) (omega arith)

-- what is left of a piece
pub rest_all : (input : List ℕ) (i : ℕ) → take (length input - i) (drop i input) ≡ drop i input
rest_all input i = take_all (length input - i) (drop i input) (omega (arith, length-drop i input))

module _ {s : Sheet} {l₀ h o₀ o l o₁ l₁ : List ℕ} {a₀ : ℕ} {r r₁ : Fed} (input : List ℕ) (i : ℕ) (p : LinesTaken s l₀ h input o₀ a₀ o l r i) where
  rest_taken : r.at + most_text ≤ length o → LineTaken r.sheet l (take r.held l) (drop i input) o r.at o₁ l₁ r₁
      → LinesTaken s l₀ h input o₀ a₀ o₁ l₁ r₁ (i + r₁.used)
  rest_taken f q =
      let u : List ℕ = take r₁.used (drop i input) in
      let ts : List ℕ = piece_text s h (take i input) in
      let us : List ℕ = piece_text r.sheet (take r.held l) u in
      let e : ts ++ us ≡ piece_text s h (take i input ++ u) = then_text p.taken.holding u s p.taken.sheet_after in
      record {
        counted = p.counted;
        used_part = omega (arith, p.used_part, q.used_part, length-drop i input);
        taken = rw (take-add i r₁.used input) (taken_join p.taken q.taken);
        put = rw (take-add i r₁.used input, ← e) (join p.put q.put);
        none_cut =
            λ z.
            rw (take-add i r₁.used input, ← e)
            (room_for ts us a₀ r.at most_text (length o₀)
            (put_room p.put (p.none_cut z))
            (omega (arith, f, put_same p.put))
            q.short);
        used_then =
            rw (put_room q.put (omega (arith, f, q.short)))
            (uses_more r.sheet r₁.sheet (take r.held l) (take r₁.held l₁) input r.at (r.at + length us) i r₁.used
            (put_same p.put)
            (omega (arith, f, put_same p.put))
            p.used_then
            (q.used_then (length o)));
      }

module _ {s : Sheet} {l₀ h o₀ o l : List ℕ} {a₀ : ℕ} {r : Fed} (input : List ℕ) (i : ℕ) (p : LinesTaken s l₀ h input o₀ a₀ o l r i) where
  feeds_so_far : ((i ≡ length input) ⊎ (length o₀ < r.at + most_text))
      → used_of (length o₀) r.sheet (take r.held l) r.at (drop i input) ≡ 0
      → Feeds s l₀ h input o₀ a₀ o l (record { sheet = r.sheet; held = r.held; at = r.at; used = i })
  feeds_so_far g e =
      record {
        used_is = sym (p.used_then ∙ rw e (add-zero i));
        taken = p.taken;
        put = p.put;
        used_part = p.used_part;
        none_cut = p.none_cut;
        used_on = g;
      }

  -- to the end of the piece, or until there is no room for an answer
  feeds_all : length input ≤ i → Feeds s l₀ h input o₀ a₀ o l (record { sheet = r.sheet; held = r.held; at = r.at; used = i })
  feeds_all z =
      feeds_so_far
      (inl (omega (arith, z, p.used_part)))
      (rw (drop_of_length-le input z) (used_nil (length o₀) r.sheet (take r.held l) r.at))

  feeds_some : (b : Bool) → b ≡ leb (r.at + most_text) (length o) → b ≡ false
      → Feeds s l₀ h input o₀ a₀ o l (record { sheet = r.sheet; held = r.held; at = r.at; used = i })
  feeds_some b e f =
      let g : length o₀ < r.at + most_text =
      omega (arith, leb-false (r.at + most_text) (length o) (sym e ∙ f), put_same p.put) in
      feeds_so_far
      (inr g)
      (used_stop (length o₀) r.sheet (take r.held l) r.at (drop i input) (lt-leb (r.at + most_text) (length o₀) g))

-- ---- what is left of a piece, `rest`
pub record RestLeft (s : Sheet) (l₀ h input o₀ : List ℕ) (a₀ : ℕ) (o l : List ℕ) (r : Fed) (rest : List ℕ) : Type 0 where
  pub used : ℕ
  pub rest_is : rest ≡ drop used input
  pub lines : LinesTaken s l₀ h input o₀ a₀ o l r used

pub rest_none : (s : Sheet) (l input o : List ℕ) (n a : ℕ)
    → length input ≤ 18446744073709551615 → n ≤ length l → a ≤ 18446744073709551615 → length o ≤ 18446744073709551615
    → RestLeft s l (take n l) input o a o l (record { sheet = s; held = n; at = a; used = 0 }) input
rest_none s l input o n a c h g k = record { used = 0; rest_is = refl; lines = lines_none s l input o n a c h g k }

module _ {s : Sheet} {l₀ h o₀ o l : List ℕ} {a₀ : ℕ} {r : Fed} (input rest : List ℕ) (p : RestLeft s l₀ h input o₀ a₀ o l r rest) where
  used_is : p.used ≡ length input - length rest
  used_is = omega (arith, p.lines.used_part, ap length p.rest_is, length-drop p.used input)

  -- one more line
  pub rest_more : {o₁ l₁ : List ℕ} {r₁ : Fed} (b : Bool) → b ≡ leb (r.at + most_text) (length o) → b ≡ true
      → LineTaken r.sheet l (take r.held l) rest o r.at o₁ l₁ r₁ → RestLeft s l₀ h input o₀ a₀ o₁ l₁ r₁ (take (length rest - r₁.used) (drop r₁.used rest))
  rest_more {o₁} {l₁} {r₁} b e f q =
      record {
        used = p.used + r₁.used;
        rest_is = rest_all rest r₁.used ∙ rw (p.rest_is, drop-drop r₁.used p.used input);
        lines = rest_taken input p.used p.lines (leb-true (r.at + most_text) (length o) (sym e ∙ f)) (rw p.rest_is at q);
      }

  -- to the end of the piece, or until there is no room for an answer
  pub rest_ends : (b : Bool) → b ≡ eqb (length rest) 0 → b ≡ true → Feeds s l₀ h input o₀ a₀ o l (record { sheet = r.sheet; held = r.held; at = r.at; used = length input - length rest })
  rest_ends b e f =
      let z : length rest ≡ 0 = eqb-true (length rest) 0 (sym e ∙ f) in
      rw (← used_is) (feeds_all input p.used p.lines (omega (arith, used_is, z)))

  pub rest_stops : (b : Bool) → b ≡ leb (r.at + most_text) (length o) → b ≡ false
      → Feeds s l₀ h input o₀ a₀ o l (record { sheet = r.sheet; held = r.held; at = r.at; used = length input - length rest })
  rest_stops b e f = rw (← used_is) (feeds_some input p.used p.lines b e f)

-- ---- of a list, no more is taken than it has
pub take_least : (l : List ℕ) (n k : ℕ) → k ≡ min n (length l) → take n l ≡ take k l
take_least l n k e =
    ⊎_elim
    (λ (h : n < length l). let z : k ≡ n = omega arith in rw z)
    (λ (h : length l ≤ n).
    let z : k ≡ length l = omega arith in
    rw (z, take_all (length l) l (omega arith), take_all n l h))
    (by_order n (length l))

module _ (l : List ℕ) (n k : ℕ) (e : k ≡ min n line_room) where
  take_line : length l ≡ line_room → take n l ≡ take k l
  take_line room = take_least l n k (rw room e)

  pub feeds_any : {s : Sheet} {t o o₁ l₁ : List ℕ} {a : ℕ} {r : Fed} → length l ≡ line_room
      → Feeds s l (take k l) t o a o₁ l₁ r → Feeds s l (take n l) t o a o₁ l₁ r
  feeds_any room p = rw (take_line room) p

  -- ---- the end of the input
  no_text_lem : (s : Sheet) → k ≡ 0 → last_text s (take n l) ≡ []
  unfolding last_text
  no_text_lem s z = let y : n ≡ 0 = omega arith in rw y

  some_text : (s : Sheet) → length l ≡ line_room → (k ≡ 0 → ⊥) → last_text s (take n l) ≡ sheet_text s (spelled (take k l))
  unfolding last_text
  some_text s room f =
      rw (take_line room, ne_eqb (length (take k l)) 0 (λ z. f (sym (length-take-le k l (omega arith)) ∙ z)))

  pub last_none : (s : Sheet) (o : List ℕ) (a : ℕ) → k ≡ 0 → a ≤ 18446744073709551615 → length o ≤ 18446744073709551615
      → Ends s (take n l) o a o a
  last_none s o a z x y = record { put = rw (no_text_lem s z) (put_none o a x y); short = rw (no_text_lem s z) (omega arith) }

  pub last_some : {s : Sheet} {o o₁ : List ℕ} {a a₁ : ℕ} → length l ≡ line_room → (k ≡ 0 → ⊥)
      → Put o a (sheet_text s (spelled (take k l))) o₁ a₁ → length (sheet_text s (spelled (take k l))) ≤ most_text → Ends s (take n l) o a o₁ a₁
  last_some {s} room f p h = record { put = rw (some_text s room f) p; short = rw (some_text s room f) h }

-- ---- feeding gets on: where the buffer has room for an answer from its start on, some of a piece is used
pub progress : {s : Sheet} {l h t o o₁ l₁ : List ℕ} {r : Fed} → Feeds s l h t o 0 o₁ l₁ r → 0 < length t → most_text ≤ length o → 0 < r.used
progress {s} {l} {h} {t} {o} {o₁} {l₁} {r} p f g =
    ⊎_elim
    (λ (z : 0 < r.used). z)
    (λ (z : r.used ≤ 0).
    let e : length (piece_text s h (take r.used t)) ≡ 0 = (let y : r.used ≡ 0 = omega arith in rw y (ap length (text_nil s h))) in
    let w : r.at ≡ 0 + length (piece_text s h (take r.used t)) = put_room p.put (p.none_cut (omega arith)) in
    ⊎_elim
    (λ (i : r.used ≡ length t). omega (arith, i, f))
    (λ (i : length o < r.at + most_text). absurd (omega (arith, i, e, w, g)))
    p.used_on)
    (by_order 0 r.used)
