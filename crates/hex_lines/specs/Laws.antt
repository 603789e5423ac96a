-- Lines the other way round: how bytes are written as a line, and the case of its letters. The lines that are read are exactly those
-- that are written, in either case, which proofs/Written.antt proves.
use Rattle.std.specs.Prelude.{◌≡◌, ℕ, ◌+◌, ◌-◌, ◌/◌, ◌%◌, ◌<◌, ◌≤◌, true, cond, List, [], ◌∷◌, ◌++◌, map, length, nat_lt, slice_index}
use Rattle.hex_lines.specs.Hex.{within, well_formed, bytes_of}

-- a list of numbers below 256
abbrev pub AreBytes : List ℕ → Type 0
AreBytes b = (i : ℕ) → slice_index b i < 256

-- ---- a line of bytes
-- the digit of four bits, `0` to `9` or `A` to `F`
unfoldable pub digit_for : ℕ → ℕ
digit_for half = cond (nat_lt half 10) (48 + half) (55 + half)

-- two digits, the higher first
abbrev pub digits_of_byte : ℕ → List ℕ
digits_of_byte byte = digit_for (byte / 16) ∷ digit_for (byte % 16) ∷ []

unfoldable pub line_of : List ℕ → List ℕ
line_of [] = []
line_of (byte ∷ bytes) = digits_of_byte byte ++ line_of bytes

-- a line that is well formed and reads as some bytes
pub record ReadsAs (line b : List ℕ) : Type 0 where
  pub well_formed : well_formed line ≡ true
  pub the_bytes : bytes_of line ≡ b

-- what is written is read back, of as many bytes as "at most 4,096 characters" hold
abbrev pub WrittenIsRead : Type 0
WrittenIsRead = (b : List ℕ) → AreBytes b → 1 ≤ length b → length b ≤ 2048 → ReadsAs (line_of b) b

-- ---- "either case"
-- `a` to `f` become `A` to `F`; any other character stays
unfoldable pub upper : ℕ → ℕ
upper c = cond (within 97 102 c) (c - 32) c

abbrev pub upper_line : List ℕ → List ℕ
upper_line line = map upper line

-- upper case changes neither whether a line is well formed nor its bytes
pub record SameInUpper (line : List ℕ) : Type 0 where
  pub same_form : well_formed (upper_line line) ≡ well_formed line
  pub the_bytes : bytes_of (upper_line line) ≡ bytes_of line

abbrev pub EitherCase : Type 0
EitherCase = (line : List ℕ) → SameInUpper line

-- ---- and what is read was written so
-- what is read of a line, well formed or not, is bytes
abbrev pub ReadIsBytes : Type 0
ReadIsBytes = (line : List ℕ) → AreBytes (bytes_of line)

-- a well-formed line is, in upper case, the line of its bytes
abbrev pub ReadIsWritten : Type 0
ReadIsWritten = (line : List ℕ) → well_formed line ≡ true → upper_line line ≡ line_of (bytes_of line)
