-- Lines are read as they are written, in either case, and what is read was written so. The idea: a digit stands in one of three ranges
-- of characters, in each of which its value, its upper case and the digit of its value compute; a line goes by its pairs of digits.
-- Assumes nothing.
use Rattle.std.proofs.Common.{◌≡◌, ℕ, zero, suc, ◌+◌, ◌-◌, ◌*◌, ◌/◌, ◌%◌, ◌<◌, ◌≤◌, true, false, not, ◌&&◌, eqb, leb, List, [], ◌∷◌, length, sym, refl, ap, ◌∙◌, ⊎_elim, arith, ltb-true, le-ltb, lt-ltb, eqb-true, le-leb, leb-true}
use lib.ListN.{length-map}
use borrow.Author.Tests.{lt-leb}
use Rattle.laws.proofs.Tests.{by_cond, both, by_order}
use Rattle.hex_lines.specs.Hex.{within, digit_of, is_hex_digit, all_digits, well_formed, half_of, bytes_of}
use Rattle.hex_lines.specs.Laws.{AreBytes, digit_for, line_of, WrittenIsRead, upper, upper_line, EitherCase, ReadIsBytes, ReadIsWritten}
use Rattle.hex_lines.proofs.Laws.{half_in, well_digits}

-- ---- the ranges of characters
module _ (low high c : ℕ) where
  inside : low ≤ c → c ≤ high → within low high c ≡ true
  inside l h = rw (le-leb low c l, le-leb c high h)

  below : c < low → within low high c ≡ false
  below l = rw (lt-leb low c l)

  above : low ≤ c → high < c → within low high c ≡ false
  above l h = rw (le-leb low c l, lt-leb c high h)

module _ (c : ℕ) where
  value_decimal : 48 ≤ c → c ≤ 57 → digit_of c ≡ c - 48
  unfolding digit_of
  value_decimal l h = rw (inside 48 57 c l h)

  value_upper : 65 ≤ c → c ≤ 70 → digit_of c ≡ c - 55
  unfolding digit_of
  value_upper l h = rw (above 48 57 c (omega arith) (omega arith), inside 65 70 c l h)

  value_lower : 97 ≤ c → c ≤ 102 → digit_of c ≡ c - 87
  unfolding digit_of
  value_lower l h = rw (above 48 57 c (omega arith) (omega arith), above 65 70 c (omega arith) (omega arith), inside 97 102 c l h)

  upper_lower : 97 ≤ c → c ≤ 102 → upper c ≡ c - 32
  unfolding upper
  upper_lower l h = rw (inside 97 102 c l h)

  upper_below : c < 97 → upper c ≡ c
  unfolding upper
  upper_below l = rw (below 97 102 c l)

bounds : (low high c : ℕ) → within low high c ≡ true → (low ≤ c) × (c ≤ high)
bounds low high c e =
    let z = both (leb low c) (leb c high) e in
    (leb-true low c z.0, leb-true c high z.1)

-- ---- a digit of four bits
module _ (half : ℕ) where
  digit_few : half < 10 → digit_for half ≡ 48 + half
  unfolding digit_for
  digit_few h = rw (lt-ltb half 10 h)

  digit_many : 10 ≤ half → digit_for half ≡ 55 + half
  unfolding digit_for
  digit_many h = rw (le-ltb half 10 h)

  -- it is read back
  value_back : half < 16 → digit_of (digit_for half) ≡ half
  value_back h =
      ⊎_elim
      (λ (l : half < 10). rw (digit_few l, value_decimal (48 + half) (omega arith) (omega arith)) (omega arith))
      (λ (l : 10 ≤ half). rw (digit_many l, value_upper (55 + half) (omega arith) (omega arith)) (omega arith))
      (by_order half 10)

  half_back : half < 16 → half_of (digit_for half) ≡ half
  half_back h = sym (half_in (digit_for half) half (sym (value_back h)) h)

-- ---- a digit in upper case
module _ (c : ℕ) where
  value_same : digit_of (upper c) ≡ digit_of c
  unfolding upper
  value_same =
      by_cond (λ (u : ℕ). digit_of u ≡ digit_of c) (within 97 102 c)
      (λ e.
      let z = bounds 97 102 c e in
      rw (value_upper (c - 32) (omega arith) (omega arith), value_lower c z.0 z.1) (omega arith))
      (λ e. refl)

  -- the digit of a digit's value is that digit in upper case
  abbrev Again : ℕ → Type 0
  Again value = value < 16 → digit_for value ≡ upper c

  digit_again : Again (digit_of c)
  unfolding digit_of
  digit_again =
      by_cond Again (within 48 57 c)
      (λ e h.
      let z = bounds 48 57 c e in
      rw (digit_few (c - 48) (omega arith), upper_below c (omega arith)) (omega arith))
      (λ n.
      by_cond Again (within 65 70 c)
      (λ e h.
      let z = bounds 65 70 c e in
      rw (digit_many (c - 55) (omega arith), upper_below c (omega arith)) (omega arith))
      (λ m.
      by_cond Again (within 97 102 c)
      (λ e h.
      let z = bounds 97 102 c e in
      rw (digit_many (c - 87) (omega arith), upper_lower c z.0 z.1) (omega arith))
      (λ o h. absurd (omega arith))))

-- ---- what is written is read back
half_high : (x : ℕ) → x < 256 → x / 16 < 16
half_high x h = omega arith

half_low : (x : ℕ) → x % 16 < 16
half_low x = omega arith

line_long : (b : List ℕ) → length (line_of b) ≡ 2 * length b
unfolding line_of
line_long [] = refl
line_long (x ∷ b) = omega (arith, line_long b)

line_digits : (b : List ℕ) → AreBytes b → all_digits (line_of b) ≡ true
unfolding line_of all_digits
line_digits [] h = refl
line_digits (x ∷ b) h =
    rw (
      value_back (x / 16) (half_high x (h 0)),
      value_back (x % 16) (half_low x),
      lt-ltb (x / 16) 16 (half_high x (h 0)),
      lt-ltb (x % 16) 16 (half_low x),
    ) (line_digits b (λ i. h (suc i)))

line_back_lem : (b : List ℕ) → AreBytes b → bytes_of (line_of b) ≡ b
unfolding line_of bytes_of
line_back_lem [] h = refl
line_back_lem (x ∷ b) h =
    let e : 16 * (x / 16) + x % 16 ≡ x = omega arith in
    rw (half_back (x / 16) (half_high x (h 0)), half_back (x % 16) (half_low x), line_back_lem b (λ i. h (suc i)))
    (ap (λ (y : ℕ). y ∷ b) e)

pub written_is_read : WrittenIsRead
written_is_read b h some few =
    let l = line_long b in
    record {
      well_formed = sym (well_digits (line_of b) (λ e. omega arith) (omega arith) (omega arith) true (sym (line_digits b h)));
      the_bytes = line_back_lem b h;
    }

-- ---- either case
digits_same : (line : List ℕ) → all_digits (upper_line line) ≡ all_digits line
unfolding all_digits
digits_same [] = refl
digits_same (c ∷ line) = rw (value_same c, digits_same line)

half_same : (c : ℕ) → half_of (upper c) ≡ half_of c
unfolding half_of
half_same c = rw (value_same c)

bytes_same : (line : List ℕ) → bytes_of (upper_line line) ≡ bytes_of line
unfolding bytes_of
bytes_same [] = refl
bytes_same (a ∷ []) = refl
bytes_same (a ∷ b ∷ line) = rw (half_same a, half_same b, bytes_same line)

form_same : (line : List ℕ) → well_formed (upper_line line) ≡ well_formed line
unfolding well_formed
form_same line = rw (length-map line upper, digits_same line)

pub either_case : EitherCase
either_case line = record { same_form = form_same line; the_bytes = bytes_same line }

-- ---- what is read was written so
half_small : (c : ℕ) → half_of c < 16
unfolding half_of
half_small c = by_cond (λ (v : ℕ). v < 16) (is_hex_digit c) (λ e. ltb-true (digit_of c) 16 e) (λ e. omega arith)

joined_small : (a b : ℕ) → a < 16 → b < 16 → 16 * a + b < 256
joined_small a b h g = omega arith

pub read_is_bytes : ReadIsBytes
unfolding bytes_of
read_is_bytes [] i = omega arith
read_is_bytes (a ∷ []) i = omega arith
read_is_bytes (a ∷ b ∷ line) zero = joined_small (half_of a) (half_of b) (half_small a) (half_small b)
read_is_bytes (a ∷ b ∷ line) (suc i) = read_is_bytes line i

digit_of_half : (c : ℕ) → is_hex_digit c ≡ true → digit_for (half_of c) ≡ upper c
digit_of_half c e =
    let h = ltb-true (digit_of c) 16 e in
    ap digit_for (sym (half_in c (digit_of c) refl h)) ∙ digit_again c h

line_again : (line : List ℕ) → length line % 2 ≡ 0 → all_digits line ≡ true → upper_line line ≡ line_of (bytes_of line)
unfolding line_of bytes_of all_digits
line_again [] even h = refl
line_again (a ∷ []) even h = absurd (omega arith)
line_again (a ∷ b ∷ line) even h =
    let y = both (is_hex_digit a) (is_hex_digit b && all_digits line) h in
    let z = both (is_hex_digit b) (all_digits line) y.1 in
    let high : (16 * half_of a + half_of b) / 16 ≡ half_of a = omega (arith, half_small a, half_small b) in
    let low : (16 * half_of a + half_of b) % 16 ≡ half_of b = omega (arith, half_small a, half_small b) in
    rw (high, low, digit_of_half a y.0, digit_of_half b z.0, ← line_again line (omega arith) z.1)

pub read_is_written : ReadIsWritten
unfolding well_formed
read_is_written line h =
    let x = both (not (eqb (length line) 0)) _ h in
    let y = both (leb (length line) 4096) _ x.1 in
    let z = both (eqb (length line % 2) 0) (all_digits line) y.1 in
    line_again line (eqb-true (length line % 2) 0 z.0) z.1
