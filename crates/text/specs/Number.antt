-- Numbers as text: decimal digits without leading zeros, and what digits say.
use Rattle.std.specs.Prelude.{ℕ, zero, suc, ◌+◌, ◌*◌, ◌-◌, ◌/◌, ◌%◌, cond, List, [], ◌∷◌, ◌++◌, ltb}

-- the character of the last digit of a number
abbrev pub last_digit : ℕ → ℕ
last_digit n = 48 + n % 10

-- the digits of a number, in k further steps at the most
unfoldable pub digits_in : ℕ → ℕ → List ℕ
digits_in zero n = last_digit n ∷ []
digits_in (suc k) n = cond (ltb n 10) (last_digit n ∷ []) (digits_in k (n / 10) ++ (last_digit n ∷ []))

-- "in decimal": n steps are enough for n
unfoldable pub digits_of : ℕ → List ℕ
digits_of n = digits_in n n

-- a word and a number
abbrev pub pair : List ℕ → ℕ → List ℕ
pair word n = word ++ digits_of n

-- what digits say, after a number that others before them said
unfoldable pub read_from : ℕ → List ℕ → ℕ
read_from a [] = a
read_from a (d ∷ ds) = read_from (10 * a + (d - 48)) ds

abbrev pub read_of : List ℕ → ℕ
read_of ds = read_from 0 ds
