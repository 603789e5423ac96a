-- Laws of cutting a text at its first zero byte, by where that is, and of trimming spaces, a byte at a time. Assumes nothing.
use Rattle.std.proofs.Common.{rules, ◌≡◌, ℕ, List, [], ◌∷◌, ◌++◌, Some, None, ◌+◌, ◌≤◌, false, nat_lt}
use Rattle.std.specs.Prelude.{take, zero, suc, ◌==◌, cond}
use Rattle.std.specs.List.{position, position_or_len}
use mathlib.Core.Path.{refl, ap, sym, ◌∙◌}
use lib.Seq.{take_all}
use native.Mathlib.Omega.{arith}
use mathlib.Core.List.{reverse, reverse-append, reverse-cons, reverse-reverse}
use borrow.Author.Tests.{ne_eqb}
use Rattle.reading.specs.Values.{up_to_zero, trim_end, trim_start}

-- ---- up to the first zero byte
one_more : (x n : ℕ) (xs : List ℕ) → take (1 + n) (x ∷ xs) ≡ x ∷ take n xs
one_more x n xs = let e : 1 + n ≡ suc n = omega arith in rw e

is_no_zero : (n : ℕ) → (suc n == 0) ≡ false
is_no_zero n = search rules

zeros_before : (s : List ℕ) → take (position_or_len (λ byte. byte == 0) s) s ≡ up_to_zero s
unfolding up_to_zero
zeros_before [] = refl
zeros_before (zero ∷ xs) = refl
zeros_before (suc x ∷ xs) = rw (is_no_zero x) (one_more (suc x) _ xs ∙ ap (λ (l : List ℕ). suc x ∷ l) (zeros_before xs))

pub before_zero : (s : List ℕ) (i : ℕ) → position (λ byte. byte == 0) s ≡ Some i → take i s ≡ up_to_zero s
before_zero s i e = search (rules, zeros_before)

past_the_end : (n m : ℕ) → cond (nat_lt n m) (Some n) None ≡ None → m ≤ n
past_the_end n m e = grind (arith, e)

pub no_zero : (s : List ℕ) → position (λ byte. byte == 0) s ≡ None → s ≡ up_to_zero s
no_zero s e = sym (take_all (position_or_len (λ byte. byte == 0) s) s (past_the_end _ _ e)) ∙ zeros_before s

-- ---- one byte at the end
pub space_last : (xs : List ℕ) → trim_end (xs ++ (32 ∷ [])) ≡ trim_end xs
unfolding trim_end trim_start
space_last xs = rw (reverse-append xs (32 ∷ []))

pub other_last : (xs : List ℕ) (x : ℕ) → (x ≡ 32 → ⊥) → trim_end (xs ++ (x ∷ [])) ≡ xs ++ (x ∷ [])
unfolding trim_end trim_start
other_last xs x n = rw (reverse-append xs (x ∷ []), ne_eqb x 32 n, reverse-cons x (reverse xs), reverse-reverse xs)
