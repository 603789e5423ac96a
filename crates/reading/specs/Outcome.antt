-- How a call ends: refused by one of the documents' numbers, or accepted with a value.
use Rattle.std.specs.Prelude.{ℕ, min, Bool, true, false}

pub data Outcome (A : Type 0) : Type 0 where
  refused : ℕ → Outcome A
  accepted : A → Outcome A

-- the number of a refusal, and 0 for an accepted call
abbrev pub number_of : {A : Type 0} → Outcome A → ℕ
number_of (refused n) = n
number_of (accepted a) = 0

-- whether a call is accepted
abbrev pub is_accepted : {A : Type 0} → Outcome A → Bool
is_accepted (refused n) = false
is_accepted (accepted a) = true

-- an accepted value is handed on, a refusal stays
abbrev pub and_then : {A B : Type 0} → Outcome A → (A → Outcome B) → Outcome B
and_then (refused n) f = refused n
and_then (accepted a) f = f a

-- "The lowest number that applies is returned": one more refusal that applies if the test holds
abbrev pub refused_too : {A : Type 0} → ℕ → Bool → Outcome A → Outcome A
refused_too n false x = x
refused_too n true (refused m) = refused (min n m)
refused_too n true (accepted a) = refused n
