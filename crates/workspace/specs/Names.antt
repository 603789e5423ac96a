-- 02, 2026-03 "Named stands": a name, and the 16 places that hold one.
use Rattle.std.specs.Prelude.{ℕ, ◌-◌, Bool, ◌&&◌, ◌||◌, List, ◌++◌, leb, ltb, eqb, length, replicate, take}
use Rattle.numbers.specs.Bytes.{same}

-- 16, "name empty or too long": it is "a name of 1 to 16 bytes"
unfoldable pub is_bad_name : List ℕ → Bool
is_bad_name name = eqb (length name) 0 || ltb 16 (length name)

-- a name in 16 places: zeros behind it
unfoldable pub in_places : List ℕ → List ℕ
in_places name = name ++ replicate (16 - length name) 0

-- whether the first `len` of 16 places hold this name, byte for byte. By hand, a length that passes the places is of no name
unfoldable pub holds_name : List ℕ → List ℕ → ℕ → Bool
holds_name name stored len = leb len 16 && same (take len stored) name
