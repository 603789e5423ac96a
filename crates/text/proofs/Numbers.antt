-- A number is its digits, put one by one, ten at the most. Assumes nothing.
use Prim.Native.Nat.{ℕ, ◌/◌, ◌<◌, ◌≤◌}
use mathlib.Core.Path.{◌≡◌}
use mathlib.Core.List.{List, [], ◌∷◌}
use native.Mathlib.Omega.{arith}
use lib.ListN.{length}
use Rattle.text.specs.Number.{last_digit, digits_of}
use Rattle.text.specs.Put.{Put}
use Rattle.text.proofs.Digits.{digits_few, digits_more, ten_digits}
use Rattle.text.proofs.Laws.{join}

pub number_few : {o o₁ : List ℕ} {a a₁ d : ℕ} (n : ℕ) → n < 10 → d ≡ last_digit n → Put o a (d ∷ []) o₁ a₁
    → Put o a (digits_of n) o₁ a₁ × (length (digits_of n) ≤ 10)
number_few n h e p = rw (digits_few n h, ← e) (p, omega arith)

pub number_more : {o o₁ o₂ : List ℕ} {a a₁ a₂ d : ℕ} (n : ℕ) → n < 4294967296 → 10 ≤ n → d ≡ last_digit n
    → Put o a (digits_of (n / 10)) o₁ a₁ → Put o₁ a₁ (d ∷ []) o₂ a₂ → Put o a (digits_of n) o₂ a₂ × (length (digits_of n) ≤ 10)
number_more n l h e p q = (rw (digits_more n h, ← e) (join p q), ten_digits n l)
