-- What the digits of a number are, beside their definition: they say the number, each is a digit, the first is no 0 but in 0 itself,
-- and a 32-bit number has ten at the most. proofs/Digits.antt proves each.
use Rattle.std.specs.Prelude.{ℕ, ◌≤◌, ◌<◌, ◌≡◌, length, get_or}
use Rattle.text.specs.Number.{digits_of, read_of}

abbrev pub ReadsBack : Type 0
ReadsBack = (n : ℕ) → read_of (digits_of n) ≡ n

-- a character from `0` to `9`
abbrev pub IsDigit : ℕ → Type 0
IsDigit c = (48 ≤ c) × (c ≤ 57)

abbrev pub DigitsOnly : Type 0
DigitsOnly = (n i : ℕ) → i < length (digits_of n) → IsDigit (get_or (digits_of n) i 0)

abbrev pub NoLeadingZero : Type 0
NoLeadingZero = (n : ℕ) → 0 < n → 49 ≤ get_or (digits_of n) 0 0

abbrev pub TenDigits : Type 0
TenDigits = (n : ℕ) → n < 4294967296 → length (digits_of n) ≤ 10
