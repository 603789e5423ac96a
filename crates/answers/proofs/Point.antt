-- A point's line, number by number. Assumes nothing.
use Prim.Native.Nat.{ℕ, zero, suc, ◌+◌}
use mathlib.Core.List.{List, ◌++◌}
use lib.ListN.{get_or}
use Rattle.text.specs.Number.{digits_of}
use Rattle.answers.specs.Answers.{spaced}

-- the number at w, and the n numbers after it, each after a space
abbrev pub first_numbers : List ℕ → ℕ → ℕ → List ℕ
first_numbers words w zero = digits_of (get_or words w 0)
first_numbers words w (suc n) = first_numbers words w n ++ spaced (get_or words (w + suc n) 0)
