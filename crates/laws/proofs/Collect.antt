-- A list that a loop collects at the front of an array of blanks, one store a turn, for any element and any number of
-- places. The idea: what is stored and what is still to be collected are together the whole list. Assumes nothing.
use mathlib.Core.Path.{◌≡◌, ◌∙◌, sym, ap}
use mathlib.Core.List.{List, [], ◌∷◌, ◌++◌, append-nil}
use Prim.Native.Nat.{ℕ, suc, ◌+◌, ◌-◌, ◌≤◌, ◌<◌}
use native.Mathlib.Nat.{min-eq_left}
use native.Mathlib.Numerals.{add-one}
use native.Mathlib.Omega.{arith}
use lib.ListN.{length, take, drop, set, replicate, length-take, length-set, take-append-drop}
use lib.Seq.{take-suc-set, append_snoc, drop-set-lt, drop-drop}

-- size places, of which the first n hold what is collected; what is left to collect is rest
pub record Collected {A : Type 0} (size : ℕ) (blank : A) (all : List A) (places : List A) (n : ℕ) (rest : List A) : Type 0 where
  pub same_size : length places ≡ size
  pub count_fits : n ≤ size
  pub together : take n places ++ rest ≡ all
  pub blank_after : drop n places ≡ replicate (size - n) blank

module _ {A : Type 0} (size : ℕ) (blank : A) (all : List A) where
  pub stored : (places : List A) (n : ℕ) (q : A) (rest : List A) → n < size → Collected size blank all places n (q ∷ rest) →
      Collected size blank all (set places n q) (n + 1) rest
  stored places n q rest h k =
      let l : n < length places = omega (arith, k.same_size) in
      let m : size - n ≡ suc (size - (n + 1)) = omega arith in
      record {
        same_size = length-set places n q ∙ k.same_size;
        count_fits = omega arith;
        together = rw (add-one, take-suc-set places n q l, append_snoc (take n places) q rest) k.together;
        blank_after =
            rw (drop-set-lt (n + 1) places n q (omega arith), ← drop-drop 1 n places, k.blank_after, m);
      }

  pub finished : (places : List A) (n : ℕ) → Collected size blank all places n [] →
      (n ≡ length all) × (places ≡ all ++ replicate (size - n) blank)
  finished places n k =
      let e : take n places ≡ all = sym (append-nil (take n places)) ∙ k.together in
      let f : length (take n places) ≡ n = length-take n places ∙ min-eq_left (omega (arith, k.same_size, k.count_fits)) in
      (sym f ∙ ap length e, sym (take-append-drop n places) ∙ rw (e, k.blank_after))
