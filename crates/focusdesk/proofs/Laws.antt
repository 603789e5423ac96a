-- A feed from the buffer's start hands on the text of what it used (`once_fed`); feeding what is left of a part of the input, again and
-- again, gets on, and what the feeds take one after the other is the part (`serving_more`). Then what each answer of a read leaves, by
-- cases; and read by read, the sheet and the held line are those after all of the bytes that came (`running_more`). Assumes nothing.
use Prim.Native.Nat.{ℕ, zero, suc, ◌+◌, ◌-◌, ◌<◌, ◌≤◌}
use mathlib.Core.Path.{◌≡◌, refl, sym, ap, ◌∙◌}
use mathlib.Core.Bool.{Bool, true, false, cond, not}
use mathlib.Core.List.{List, [], ◌++◌, append-nil}
use lib.Dec.{eqb}
use lib.ListN.{length, take, drop, length-drop}
use lib.Seq.{drop-drop, sets-eq, take_at, take-add, take-length}
use native.Mathlib.Omega.{arith}
use native.Mathlib.Nat.{zero-add}
use borrow.Author.Tests.{eqb-true, eqb-false, not-false}
use Rattle.text.specs.Put.{Put}
use Rattle.text.proofs.Laws.{put_same, put_room}
use Rattle.sheet.specs.declared.Sheet.{Sheet}
use Rattle.sheet.specs.Sheet.{fresh_sheet}
use Rattle.session.specs.Answering.{most_text}
use Rattle.stream.specs.declared.Fed.{Fed}
use Rattle.stream.specs.Stream.{Taken, Feeds}
use Rattle.stream.proofs.Laws.{taken_none, taken_join, rest_all, progress}
use Rattle.focusdesk.specs.declared.After.{After}
use Rattle.focusdesk.specs.declared.Once.{Once}
use Rattle.focusdesk.specs.Served.{ServesOnce, Serves, came, after_read, ReadsOnce}
use Rattle.focusdesk.specs.declared.Got.{Got}
use Rattle.focusdesk.specs.declared.Got.TheVariants.{Bytes, Interrupted, Failed}

false_true : {A : Type 0} → false ≡ true → A
false_true z =
    let e : ◌≡◌ {A = ℕ} 0 1 = ap (λ (b : Bool). cond b 1 0) z in
    absurd (omega (arith, e))

-- ---- a text at a buffer's start, which has room for it, is the bytes before the next place
front : {o t o₁ : List ℕ} {a : ℕ} → Put o 0 t o₁ a → length t ≤ length o → take a o₁ ≡ t
front {o} {t} {o₁} {a} p f =
    let k : a ≡ length t = put_room p (omega arith) ∙ zero-add (length t) in
    rw (k, p.laid, sets-eq t o 0 (omega arith)) (take_at t (drop (0 + length t) o) (length t) refl)

-- the answers of a feed from the buffer's start lie in it
pub feed_place : {s : Sheet} {l h t o o₁ l₁ : List ℕ} {r : Fed} → Feeds s l h t o 0 o₁ l₁ r → r.at ≤ length o₁
feed_place {s} {l} {h} {t} p =
    omega (arith, p.none_cut (omega arith), put_room p.put (p.none_cut (omega arith)), put_same p.put)

pub once_fed : {s : Sheet} {l h t o o₁ l₁ : List ℕ} {r : Fed} (n : ℕ) (sent : Bool) → n ≡ r.at → most_text ≤ length o → Feeds s l h t o 0 o₁ l₁ r
    → ServesOnce s l h t l₁ o₁ (record { sheet = r.sheet; held = r.held; used = r.used; handed = n; sent = sent })
once_fed n sent e room p =
    record {
      taken = p.taken;
      handed = rw e (front p.put (omega (arith, p.none_cut (omega arith))));
      used_part = p.used_part;
      used_some = λ z. progress p z room;
    }

-- ---- of a part, all but `rest` is taken
pub record Serving (s : Sheet) (l₀ h input l : List ℕ) (r : Once) (rest : List ℕ) : Type 0 where
  pub used : ℕ
  pub used_part : used ≤ length input
  pub rest_is : rest ≡ drop used input
  pub taken : Taken s l₀ h (take used input) r.sheet l r.held

pub serving_none : (s : Sheet) (l input : List ℕ) (n : ℕ) → length (take n l) ≡ n
    → Serving s l (take n l) input l (record { sheet = s; held = n; used = 0; handed = 0; sent = true }) input
serving_none s l input n e = record { used = 0; used_part = omega arith; rest_is = refl; taken = taken_none s l n e }

module _ {s : Sheet} {l₀ h l : List ℕ} {r : Once} (input rest : List ℕ) (p : Serving s l₀ h input l r rest) where
  left : length rest + p.used ≡ length input
  left = omega (arith, p.used_part, ap length p.rest_is, length-drop p.used input)

  module _ {l₁ o₁ : List ℕ} {r₁ : Once} (q : ServesOnce r.sheet l (take r.held l) rest l₁ o₁ r₁) where
    -- one more feed
    pub serving_more : Serving s l₀ h input l₁ r₁ (take (length rest - r₁.used) (drop r₁.used rest))
    serving_more =
        record {
          used = p.used + r₁.used;
          used_part = omega (arith, left, q.used_part);
          rest_is = rest_all rest r₁.used ∙ rw (p.rest_is, drop-drop r₁.used p.used input);
          taken = rw (take-add p.used r₁.used input) (taken_join p.taken (rw p.rest_is at q.taken));
        }

    -- a write has failed, after some of the part
    pub serves_some : (b : Bool) → b ≡ eqb (length rest) 0 → b ≡ false → Serves s l₀ h input l₁ (record { sheet = r₁.sheet; held = r₁.held; sent = false; more = false })
    unfolding serving_more
    serves_some b e f =
        let z : (length rest ≡ 0 → ⊥) = eqb-false (length rest) 0 (sym e ∙ f) in
        let u : 0 < r₁.used = q.used_some (omega (arith, z)) in
        record {
          used = p.used + r₁.used;
          taken = serving_more.taken;
          used_part = serving_more.used_part;
          used_some = λ y. omega arith;
          used_all = λ z. false_true z;
          more_if_sent = refl;
        }

  -- all of the part is used
  pub serves_all : (b : Bool) → b ≡ eqb (length rest) 0 → b ≡ true → Serves s l₀ h input l (after_read r.sheet r.held true)
  serves_all b e t =
      let f : length rest ≡ 0 = eqb-true (length rest) 0 (sym e ∙ t) in
      record {
        used = p.used;
        taken = p.taken;
        used_part = p.used_part;
        used_some = λ z. omega (arith, z, f, left);
        used_all = λ z. omega (arith, f, left);
        more_if_sent = refl;
      }

-- ---- what came by a read that was served, where some bytes did
pub some_came : (s : Sheet) (l : List ℕ) (n : ℕ) (input o : List ℕ) (l₁ o₁ : List ℕ) (r : After) (k : ℕ) → (k ≡ 0 → ⊥)
    → Serves s l (take n l) (take k input) l₁ r → ReadsOnce (Bytes k) s l n input o l₁ o₁ r
unfolding ReadsOnce
some_came s l n input o l₁ o₁ r zero z p = absurd (z refl)
some_came s l n input o l₁ o₁ r (suc j) z p = p

-- ---- all reads: before the first one
pub running_none : (s : Sheet) (l : List ℕ) → s ≡ fresh_sheet → Taken fresh_sheet l [] [] s l 0
running_none s l e = rw e (taken_none fresh_sheet l 0 refl)

-- after one more, after which there may be more, just the bytes that came are added to `all`
pub running_more : (got : Got) (input o : List ℕ) {all l₀ l : List ℕ} {s : Sheet} {n : ℕ} (l₁ o₁ : List ℕ) (r : After)
    → Taken fresh_sheet l₀ [] all s l n → ReadsOnce got s l n input o l₁ o₁ r → not r.more ≡ false
    → Taken fresh_sheet l₀ [] (all ++ came got input) r.sheet l₁ r.held
unfolding ReadsOnce
running_more Failed input o l₁ o₁ r p q e =
    false_true (sym (ap (λ (a : After). a.more) q.0) ∙ not-false r.more e)
running_more Interrupted input o {all} {s = s} {n = n} l₁ o₁ r p q e =
    let es : r.sheet ≡ s = ap (λ (a : After). a.sheet) q.0 in
    let eh : r.held ≡ n = ap (λ (a : After). a.held) q.0 in
    rw (es, eh, q.1, append-nil all) p
running_more (Bytes zero) input o l₁ o₁ r p q e =
    false_true (sym (ap (λ (a : After). a.more) q.0) ∙ not-false r.more e)
running_more (Bytes (suc j)) input o {all} l₁ o₁ r p q e =
    let g : take q.used (take (suc j) input) ≡ take (suc j) input =
    rw (q.used_all (not-false r.more e)) (take-length (take (suc j) input)) in
    taken_join p (rw g at q.taken)
