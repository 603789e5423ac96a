-- A line is written part by part: its parts, of so many characters at the most, and the line's end. Assumes nothing.
use Prim.Native.Nat.{ℕ, suc, ◌+◌, ◌*◌}
use mathlib.Core.Path.{◌≡◌}
use mathlib.Core.List.{List, ◌++◌}
use native.Mathlib.Nat.{suc-mul}
use native.Mathlib.Numerals.{add-one}
use native.Mathlib.Omega.{arith}
use Rattle.text.specs.declared.Writer.{Writer}
use Rattle.text.specs.Put.{Writes, WritesUpTo}
use Rattle.text.specs.Number.{pair}
use Rattle.text.proofs.Laws.{◌▹◌, up_to}
use Rattle.answers.specs.Answers.{line_feed}

pub ended : {w w₁ : Writer} → Writes w line_feed w₁ → WritesUpTo w line_feed 1 w₁
ended p = up_to p (omega arith)

-- ---- a text that is put row by row, of m characters at the most each: ts i are the first i of them
module _ (ts : ℕ → List ℕ) (m : ℕ) {w w₁ : Writer} (i : ℕ) (p : WritesUpTo w (ts i) (i * m) w₁) where
  pub rows_more : {w₂ : Writer} {us : List ℕ} → ts (suc i) ≡ ts i ++ us → WritesUpTo w₁ us m w₂ → WritesUpTo w (ts (i + 1)) ((i + 1) * m) w₂
  rows_more e q = rw (add-one, e, suc-mul i m) (p ▹ q)

-- a word and a number n, which is k
pub numbered : {w w₁ : Writer} {n k m : ℕ} (word : List ℕ) → n ≡ k → WritesUpTo w (pair word n) m w₁ → WritesUpTo w (pair word k) m w₁
numbered word e p = rw (← e) p
