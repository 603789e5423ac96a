-- The digits of a number are one digit below 10, else those of its tenth and one more; and the laws of specs/Laws.antt. The idea:
-- steps beyond those that a number needs change nothing, so that each law goes from a tenth to its number. Assumes nothing.
use Prim.Native.Nat.{ℕ, zero, suc, ◌+◌, ◌*◌, ◌-◌, ◌/◌, ◌<◌, ◌≤◌}
use mathlib.Core.Path.{◌≡◌, refl}
use mathlib.Core.List.{List, [], ◌∷◌, ◌++◌}
use mathlib.Core.Logic.{⊎_elim}
use lib.ListN.{length, length-append, get_or, get_or-append}
use lib.Seq.{get_or_at}
use native.Mathlib.Omega.{arith}
use borrow.Author.Tests.{lt-ltb, le-ltb}
use Rattle.text.specs.Number.{last_digit, digits_in, digits_of, read_from, read_of}
use Rattle.text.specs.Laws.{ReadsBack, IsDigit, DigitsOnly, NoLeadingZero, TenDigits}
use Rattle.laws.proofs.Tests.{by_order}

stable : (k j n : ℕ) → n ≤ k → n ≤ j → digits_in k n ≡ digits_in j n
unfolding digits_in
stable zero zero n h g = refl
stable zero (suc j) n h g = rw (lt-ltb n 10 (omega arith))
stable (suc k) zero n h g = rw (lt-ltb n 10 (omega arith))
stable (suc k) (suc j) n h g =
    ⊎_elim
    (λ (l : n < 10). rw (lt-ltb n 10 l))
    (λ (l : 10 ≤ n). rw (le-ltb n 10 l, stable k j (n / 10) (omega arith) (omega arith)))
    (by_order n 10)

pub digits_few : (n : ℕ) → n < 10 → digits_of n ≡ last_digit n ∷ []
unfolding digits_of digits_in
digits_few zero h = refl
digits_few (suc n) h = rw (lt-ltb (suc n) 10 h)

pub digits_more : (n : ℕ) → 10 ≤ n → digits_of n ≡ digits_of (n / 10) ++ (last_digit n ∷ [])
unfolding digits_of digits_in
digits_more zero h = absurd (omega arith)
digits_more (suc n) h = rw (le-ltb (suc n) 10 h, stable n (suc n / 10) (suc n / 10) (omega arith) (omega arith))

-- what holds below 10, and of a number when it holds of its tenth, holds of every number
tenths_in : (P : ℕ → Type 0) → ((n : ℕ) → n < 10 → P n) → ((n : ℕ) → 10 ≤ n → P (n / 10) → P n) → (k n : ℕ) → n ≤ k → P n
tenths_in P few more zero n h = few n (omega arith)
tenths_in P few more (suc k) n h =
    ⊎_elim
    (λ (l : n < 10). few n l)
    (λ (l : 10 ≤ n). more n l (tenths_in P few more k (n / 10) (omega arith)))
    (by_order n 10)

tenths : (P : ℕ → Type 0) → ((n : ℕ) → n < 10 → P n) → ((n : ℕ) → 10 ≤ n → P (n / 10) → P n) → (n : ℕ) → P n
tenths P few more n = tenths_in P few more n n (omega arith)

read_append : (ds es : List ℕ) (a : ℕ) → read_from a (ds ++ es) ≡ read_from (read_from a ds) es
unfolding read_from
read_append [] es a = refl
read_append (d ∷ ds) es a = read_append ds es (10 * a + (d - 48))

pub read_back : ReadsBack
unfolding read_from
read_back =
    tenths
    (λ (n : ℕ). read_of (digits_of n) ≡ n)
    (λ n h. rw (digits_few n h) (omega arith))
    (λ n h r. rw (digits_more n h, read_append (digits_of (n / 10)) (last_digit n ∷ []) 0, r) (omega arith))

-- ---- each is a digit
last_only : (n : ℕ) → IsDigit (last_digit n)
last_only n = (omega arith, omega arith)

module _ (ds : List ℕ) (d : ℕ) where
  only_more : ((i : ℕ) → i < length ds → IsDigit (get_or ds i 0)) → IsDigit d → (i : ℕ) → i < length (ds ++ (d ∷ [])) → IsDigit (get_or (ds ++ (d ∷ [])) i 0)
  only_more p q i h =
      ⊎_elim
      (λ (l : i < length ds). rw (get_or-append ds (d ∷ []) 0 i l) (p i l))
      (λ (l : length ds ≤ i). rw (get_or_at ds d [] 0 i (omega (arith, length-append ds (d ∷ [])))) q)
      (by_order i (length ds))

  first_more : 0 < length ds → 49 ≤ get_or ds 0 0 → 49 ≤ get_or (ds ++ (d ∷ [])) 0 0
  first_more h p = rw (get_or-append ds (d ∷ []) 0 0 h) p

pub digits_only : DigitsOnly
digits_only =
    tenths
    (λ (n : ℕ). (i : ℕ) → i < length (digits_of n) → IsDigit (get_or (digits_of n) i 0))
    (λ n h. rw (digits_few n h) (only_more [] (last_digit n) (λ i l. absurd (omega arith)) (last_only n)))
    (λ n h r. rw (digits_more n h) (only_more (digits_of (n / 10)) (last_digit n) r (last_only n)))

-- ---- no zero leads, and there is a first digit
some_digit : (n : ℕ) → 0 < length (digits_of n)
some_digit n =
    ⊎_elim
    (λ (l : n < 10). rw (digits_few n l) (omega arith))
    (λ (l : 10 ≤ n). rw (digits_more n l, length-append (digits_of (n / 10)) (last_digit n ∷ [])) (omega arith))
    (by_order n 10)

pub no_leading_zero : NoLeadingZero
no_leading_zero =
    tenths
    (λ (n : ℕ). 0 < n → 49 ≤ get_or (digits_of n) 0 0)
    (λ n h g. rw (digits_few n h) (omega arith))
    (λ n h r g. rw (digits_more n h) (first_more (digits_of (n / 10)) (last_digit n) (some_digit (n / 10)) (r (omega arith))))

-- ---- k + 1 digits are enough for a number below this
tens : ℕ → ℕ
tens zero = 10
tens (suc k) = 10 * tens k

long : (k n : ℕ) → n < tens k → length (digits_of n) ≤ suc k
unfolding tens
long zero n h = rw (digits_few n h) (omega arith)
long (suc k) n h =
    ⊎_elim
    (λ (l : n < 10). rw (digits_few n l) (omega arith))
    (λ (l : 10 ≤ n).
    rw (digits_more n l, length-append (digits_of (n / 10)) (last_digit n ∷ [])) (omega (arith, long k (n / 10) (omega arith))))
    (by_order n 10)

pub ten_digits : TenDigits
unfolding tens
ten_digits n h = long 9 n (omega arith)
