-- Laws of call lines: a digit's value by the tests of the code, digits from a place on, what the library's method tells of a sum, a
-- line's test, the bytes up to a place, and what decoding answers. Assumes nothing.
use Rattle.std.proofs.Common.{◌≡◌, ℕ, ◌+◌, ◌*◌, ◌/◌, ◌%◌, ◌<◌, ◌≤◌, ◌-◌, Bool, true, false, not, List, [], ◌∷◌, ◌++◌, length, get_or, set, sym, refl, ◌∙◌, ⊎_elim, add-one, arith, le-ltb, lt-ltb, eq-eqb, ne_eqb, le-leb, leb-true, fold}
use mathlib.Core.Bool.{false≢true, ◌&&◌}
use Rattle.std.specs.Prelude.{nat_lt}
use lib.Seq.{sets, drop-cons}
use lib.ListN.{drop, drop_of_length-le}
use borrow.Author.Tests.{lt-leb, not-true, not-false}
use Rattle.laws.proofs.Tests.{both, by_order}
use Rattle.reading.specs.Outcome.{refused, accepted}
use Rattle.hex_lines.specs.Hex.{within, digit_of, sum, all_digits, well_formed, half_of, bytes_of, decoded_of, buffer_of}

-- ---- a digit
-- a character within a range is not below it
pub within_low : (low high c : ℕ) (r : Bool) → r ≡ within low high c → r ≡ true → low ≤ c
within_low low high c r e h = leb-true low c (both _ _ (sym e ∙ h)).0

module _ (c : ℕ) (r : Bool) (er : r ≡ within 48 57 c) where
  pub digit_decimal : r ≡ true → c - 48 ≡ digit_of c
  unfolding digit_of
  digit_decimal h = rw (← er, h)

  module _ (n : r ≡ false) (s : Bool) (es : s ≡ within 65 70 c) where
    pub digit_upper : s ≡ true → c - 65 + 10 ≡ digit_of c
    unfolding digit_of
    digit_upper h = rw (← er, n, ← es, h) (omega (arith, within_low 65 70 c s es h))

    module _ (m : s ≡ false) (t : Bool) (et : t ≡ within 97 102 c) where
      pub digit_lower : t ≡ true → c - 97 + 10 ≡ digit_of c
      unfolding digit_of
      digit_lower h = rw (← er, n, ← es, m, ← et, h) (omega (arith, within_low 97 102 c t et h))

      pub digit_none : t ≡ false → 16 ≡ digit_of c
      unfolding digit_of
      digit_none h = rw (← er, n, ← es, m, ← et, h)

module _ (c v : ℕ) (e : v ≡ digit_of c) where
  pub half_in : v < 16 → v ≡ half_of c
  unfolding half_of
  half_in h = rw (← e, lt-ltb v 16 h)

  pub half_out : 16 ≤ v → 0 ≡ half_of c
  unfolding half_of
  half_out h = rw (← e, le-ltb v 16 h)

-- ---- digits from a place on
pub digits_more : (s : List ℕ) (i : ℕ) → i < length s → (v : ℕ) → v ≡ digit_of (get_or s i 0) → (b : Bool) → all_digits s ≡ b && all_digits (drop i s)
    → all_digits s ≡ (b && nat_lt v 16) && all_digits (drop (i + 1) s)
unfolding all_digits
digits_more s i h v e true p = rw (add-one, e) (p ∙ rw (drop-cons s i 0 h))
digits_more s i h v e false p = p

pub digits_done : (s : List ℕ) (i : ℕ) → length s ≤ i → all_digits (drop i s) ≡ true
unfolding all_digits
digits_done s i h = rw (drop_of_length-le s h)

pub digits_all : (s : List ℕ) (i : ℕ) → length s ≤ i → (b : Bool) → all_digits s ≡ b && all_digits (drop i s) → b ≡ all_digits s
digits_all s i h true p = sym (p ∙ digits_done s i h)
digits_all s i h false p = sym p

-- ---- what the library's method tells
pub sum_told : (s : List ℕ) (t : ℕ) → t < 256 → fold (λ t b. (t + b) % 256) t s ≡ (t + sum s) % 256
unfolding sum
sum_told [] t h = grind arith
sum_told (x ∷ s) t h = omega (arith, sum_told s ((t + x) % 256) (omega arith))

-- ---- a line's test
module _ (s : List ℕ) (h : length s ≡ 0 → ⊥) where
  well_long : 4096 < length s → false ≡ well_formed s
  unfolding well_formed
  well_long g = rw (ne_eqb (length s) 0 h, lt-leb (length s) 4096 g)

  pub well_digits : length s ≤ 4096 → length s % 2 ≡ 0 → (r : Bool) → r ≡ all_digits s → r ≡ well_formed s
  unfolding well_formed
  well_digits g k r e = rw (ne_eqb (length s) 0 h, le-leb (length s) 4096 g, eq-eqb (length s % 2) 0 k, ← e)

pub well_over : (s : List ℕ) → 4096 < length s → well_formed s ≡ false
well_over s h = sym (well_long s (λ e. omega arith) h)

pub well_short : (s : List ℕ) → well_formed s ≡ true → length s ≤ 4096
well_short s h =
    ⊎_elim (λ (g : 4096 < length s). absurd (false≢true (sym (well_over s g) ∙ h))) (λ g. g) (by_order 4096 (length s))

-- ---- a line's bytes
pub bytes_long : (s : List ℕ) → length (bytes_of s) ≡ length s / 2
unfolding bytes_of
bytes_long [] = refl
bytes_long (a ∷ []) = refl
bytes_long (a ∷ b ∷ s) = omega (arith, bytes_long s)

-- of what is left, two more digits are written; and fewer than two are no byte
pub left_more : (d t o : List ℕ) (i b : ℕ) → length d ≡ 2 → b ≡ 16 * half_of (get_or d 0 0) + half_of (get_or d 1 0)
    → sets o i (bytes_of (d ++ t)) ≡ sets (set o i b) (i + 1) (bytes_of t)
unfolding bytes_of
left_more [] t o i b h e = absurd (omega arith)
left_more (x ∷ []) t o i b h e = absurd (omega arith)
left_more (x ∷ y ∷ []) t o i b h e = rw (add-one, e)
left_more (x ∷ y ∷ z ∷ d) t o i b h e = absurd (omega arith)

pub left_none : (s o : List ℕ) (i : ℕ) → length s < 2 → sets o i (bytes_of s) ≡ o
unfolding bytes_of
left_none [] o i h = refl
left_none (x ∷ []) o i h = refl
left_none (x ∷ y ∷ s) o i h = absurd (omega arith)

-- ---- the answer and the buffer
module _ (s o : List ℕ) (r : Bool) (e : r ≡ well_formed s) where
  pub decode_bad : not r ≡ true → (refused 14 ≡ decoded_of s) × (o ≡ buffer_of s o)
  unfolding decoded_of buffer_of
  decode_bad n = (rw (← e, not-true r n), rw (← e, not-true r n))

  pub decode_good : not r ≡ false → (p : List ℕ) → p ≡ sets o 0 (bytes_of s)
      → (accepted (length s / 2) ≡ decoded_of s) × (p ≡ buffer_of s o)
  unfolding decoded_of buffer_of
  decode_good n p f = (rw (← e, not-false r n), rw (← e, not-false r n) f)
