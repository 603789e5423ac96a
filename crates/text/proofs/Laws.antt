-- Appends compose: a text put behind another is the one text of both, whether there is room or not. The idea: places past the
-- buffer's end are all alike, so that the cap on places changes nothing. Then the laws of a loop that appends, and of how long a text
-- is. Assumes nothing.
use Prim.Native.Nat.{ℕ, ◌+◌, ◌<◌, ◌≤◌}
use mathlib.Core.Path.{◌≡◌, refl, sym, ap, ◌∙◌}
use mathlib.Core.List.{List, [], ◌∷◌, ◌++◌, append-nil, append_assoc}
use mathlib.Core.Logic.{⊎_elim}
use lib.ListN.{length, take, length-append, get_or}
use lib.Seq.{sets, length-sets, take-suc}
use native.Mathlib.Omega.{arith}
use native.Mathlib.Nat.{min-eq_left, min-eq_right}
use native.Mathlib.Numerals.{add-one}
use Rattle.text.specs.declared.Writer.{Writer}
use Rattle.text.specs.Put.{Put, Writes, WritesUpTo, capped}
use Rattle.laws.proofs.Tests.{by_order}
use Rattle.laws.proofs.Lists.{sets_past, sets_append}

-- a place past a buffer that a usize can count counts as any other
sets_capped : (us o : List ℕ) (a : ℕ) → length o ≤ 18446744073709551615 → sets o (capped a) us ≡ sets o a us
sets_capped us o a h =
    ⊎_elim
    (λ (g : a < 18446744073709551615). let e : capped a ≡ a = min-eq_left (omega arith) in rw e)
    (λ (g : 18446744073709551615 ≤ a).
    let e : capped a ≡ 18446744073709551615 = min-eq_right g in
    rw (e, sets_past us o 18446744073709551615 h, sets_past us o a (omega arith)))
    (by_order a 18446744073709551615)

capped_add : (a n : ℕ) → capped (capped a + n) ≡ capped (a + n)
capped_add a n = omega arith

pub put_none : (o : List ℕ) (a : ℕ) → a ≤ 18446744073709551615 → length o ≤ 18446744073709551615 → Put o a [] o a
put_none o a h g = record { laid = refl; place = omega arith; counted = g }

pub join : {o o₁ o₂ ts us : List ℕ} {a a₁ a₂ : ℕ} → Put o a ts o₁ a₁ → Put o₁ a₁ us o₂ a₂ → Put o a (ts ++ us) o₂ a₂
join {o} {o₁} {o₂} {ts} {us} {a} {a₁} {a₂} p q =
    record {
      laid =
          q.laid ∙
          rw (p.place, p.laid, sets_capped us (sets o a ts) (a + length ts) (rw (length-sets o a ts) p.counted), sets_append ts us o a);
      place = q.place ∙ rw (p.place, capped_add (a + length ts) (length us), length-append ts us) (omega arith);
      counted = p.counted;
    }

-- the buffer's length stays
pub put_same : {o o₁ ts : List ℕ} {a a₁ : ℕ} → Put o a ts o₁ a₁ → length o₁ ≡ length o
put_same {o} {o₁} {ts} {a} p = ap length p.laid ∙ length-sets o a ts

-- ---- what a writer's methods leave, one after the other
module _ {w w₁ w₂ : Writer} {ts us : List ℕ} where
  pub and_then : Writes w ts w₁ → Writes w₁ us w₂ → Writes w (ts ++ us) w₂
  and_then p q = record { same_buffer = q.same_buffer ∙ p.same_buffer; put = join p.put q.put }

  infixl 60 ◌▹◌
  pub ◌▹◌ : {m k : ℕ} → WritesUpTo w ts m w₁ → WritesUpTo w₁ us k w₂ → WritesUpTo w (ts ++ us) (m + k) w₂
  ◌▹◌ p q =
      record {
        same_buffer = q.same_buffer ∙ p.same_buffer;
        put = join p.put q.put;
        short = rw (length-append ts us) (omega (arith, p.short, q.short));
      }

pub nothing_yet : {w : Writer} (m : ℕ) → w.at ≤ 18446744073709551615 → length w.out.now ≤ 18446744073709551615 → WritesUpTo w [] m w
nothing_yet m h g = record { same_buffer = refl; put = put_none _ _ h g; short = omega arith }

module _ {w w₁ : Writer} {t : List ℕ} where
  pub up_to : {k : ℕ} → Writes w t w₁ → length t ≤ k → WritesUpTo w t k w₁
  up_to p h = record { same_buffer = p.same_buffer; put = p.put; short = h }

  pub at_most : {m k : ℕ} → WritesUpTo w t m w₁ → m ≤ k → WritesUpTo w t k w₁
  at_most p h = record { same_buffer = p.same_buffer; put = p.put; short = omega (arith, p.short) }

  pub all_of : {m : ℕ} → WritesUpTo w t m w₁ → Writes w t w₁
  all_of p = record { same_buffer = p.same_buffer; put = p.put }

-- a piece, byte by byte
pub one_more : {w w₁ w₂ : Writer} (s : List ℕ) (i : ℕ) → i < length s
    → Writes w (take i s) w₁ → Writes w₁ (get_or s i 0 ∷ []) w₂ → Writes w (take (i + 1) s) w₂
one_more s i g p q = rw (add-one, take-suc s i 0 g) (and_then p q)

-- the next place: past a text that has room it is the one behind it, and it is never farther than the text is long
pub put_room : {o o₁ t : List ℕ} {a a₁ : ℕ} → Put o a t o₁ a₁ → a + length t ≤ length o → a₁ ≡ a + length t
put_room p h = p.place ∙ min-eq_left (omega (arith, p.counted))

-- so of a text of m characters at the most a caller knows how far it gets, with room or without
pub puts_place : {o o₁ t : List ℕ} {a a₁ m : ℕ} → Put o a t o₁ a₁ → length t ≤ m → a₁ ≤ a + m
puts_place p h = omega (arith, p.place, h)

-- ---- on the way to a whole text: what is written, and what is left of it
pub record Going (w₀ : Writer) (whole : List ℕ) (w : Writer) (rest : List ℕ) : Type 0 where
  pub written : List ℕ
  pub writes : Writes w₀ written w
  pub together : written ++ rest ≡ whole

pub going_start : (w : Writer) (whole : List ℕ) → w.at ≤ 18446744073709551615 → length w.out.now ≤ 18446744073709551615 → Going w whole w whole
going_start w whole h g = record { written = []; writes = all_of (nothing_yet {w = w} 0 h g); together = refl }

pub going_on : {w₀ w w₁ : Writer} {all t r : List ℕ} → Going w₀ all w (t ++ r) → Writes w t w₁ → Going w₀ all w₁ r
going_on {t = t} {r = r} g p =
    record { written = g.written ++ t; writes = and_then g.writes p; together = append_assoc g.written t r ∙ g.together }

pub going_end : {w₀ w : Writer} {all : List ℕ} → Going w₀ all w [] → Writes w₀ all w
going_end {all = all} g =
    let e : g.written ≡ all = sym (append-nil g.written) ∙ g.together in
    rw e at g.writes
