-- 01, "After the sheet": "lines of hexadecimal (either case), .. at most 4,096 characters before the line feed, last byte a check".
use Rattle.std.specs.Prelude.{ℕ, ◌+◌, ◌-◌, ◌*◌, ◌/◌, ◌%◌, Bool, true, cond, not, ◌&&◌, List, [], ◌∷◌, length, ◌==◌, nat_le, nat_lt, Option, Some, None}
use Rattle.std.proofs.lemmas.List.Edits.{sets}
use Rattle.reading.specs.Outcome.{Outcome, refused, accepted}

abbrev pub within : ℕ → ℕ → ℕ → Bool
within low high c = nat_le low c && nat_le c high

-- a digit's value, 0 to 9 for `0` to `9`, 10 to 15 for `A` to `F` and for `a` to `f`; 16 for another character
unfoldable pub digit_of : ℕ → ℕ
digit_of c =
    cond (within 48 57 c) (c - 48) (cond (within 65 70 c) (c - 55) (cond (within 97 102 c) (c - 87) 16))

abbrev pub is_hex_digit : ℕ → Bool
is_hex_digit c = nat_lt (digit_of c) 16

unfoldable pub all_digits : List ℕ → Bool
all_digits [] = true
all_digits (c ∷ cs) = is_hex_digit c && all_digits cs

-- not "an empty or overlong line, an odd count of digits, another character"
unfoldable pub well_formed : List ℕ → Bool
well_formed line =
    not (length line == 0) && (nat_le (length line) 4096 && (length line % 2 == 0 && all_digits line))

-- four bits of a byte, 0 for a character that is no digit
unfoldable pub half_of : ℕ → ℕ
half_of c = cond (is_hex_digit c) (digit_of c) 0

-- the bytes of a line, two digits each, the higher first
unfoldable pub bytes_of : List ℕ → List ℕ
bytes_of [] = []
bytes_of (a ∷ []) = []
bytes_of (a ∷ b ∷ line) = (16 * half_of a + half_of b) ∷ bytes_of line

-- how many bytes a line gives; 14, "call line malformed"
unfoldable pub decoded_of : List ℕ → Outcome ℕ
decoded_of line = cond (well_formed line) (accepted (length line / 2)) (refused 14)

-- what the code's answer means in 01's numbers
abbrev pub decoded_means : Option ℕ → Outcome ℕ
decoded_means None = refused 14
decoded_means (Some n) = accepted n

-- the bytes at the buffer's front, the rest kept; a malformed line leaves the buffer as it was
unfoldable pub buffer_of : List ℕ → List ℕ → List ℕ
buffer_of line out = cond (well_formed line) (sets out 0 (bytes_of line)) out

unfoldable pub sum : List ℕ → ℕ
sum [] = 0
sum (x ∷ xs) = x + sum xs

-- "bytes of a line, check byte included, sum to 0 with carries beyond a byte dropped"
abbrev pub checks : List ℕ → Bool
checks bytes = sum bytes % 256 == 0
