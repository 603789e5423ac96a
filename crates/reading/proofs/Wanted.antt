-- Tags that are wanted and tags that have been met. The idea: what is still wanted is what is missing among those met, and each tag that
-- is met makes it fewer; so one entry further is one step of the definition. Assumes nothing.
use Rattle.std.specs.List.{list_any}
use Rattle.std.specs.Prelude.{nat_eq}
use Prim.Native.Nat.{ℕ, zero, suc, ◌+◌, ◌-◌, ◌≤◌, ◌<◌}
use mathlib.Core.Bool.{Bool, true, false, cond, not, ◌&&◌, ◌||◌, and-false, and-true, or-false, or_assoc, false≢true}
use mathlib.Core.List.{List, [], ◌∷◌, ◌++◌}
use mathlib.Core.Logic.{⊎_elim}
use mathlib.Core.Path.{◌≡◌, refl, sym, ap, ◌∙◌}
use native.Mathlib.Numerals.{sub-one}
use native.Mathlib.Omega.{arith}
use lib.Dec.{eqb}
use lib.ListN.{length}
use borrow.Author.Tests.{eqb-true}
use Rattle.laws.proofs.Tests.{by_bool, by_cond, eqb_sym}
use Rattle.reading.specs.Block.{tag_at, is_kept_at}
use Rattle.reading.specs.Contents.{kept_from, is_among, without, first_each}
use Rattle.numbers.specs.declared.io.ByteOrder.{ByteOrder}

-- ---- tags in a list
among_append : (t : ℕ) (xs ys : List ℕ) → is_among t (xs ++ ys) ≡ (is_among t xs || is_among t ys)
unfolding is_among
among_append t [] ys = refl
among_append t (x ∷ xs) ys = rw (among_append t xs ys, or_assoc (eqb x t) (is_among t xs) (is_among t ys))

among_one : (t u : ℕ) → is_among t (u ∷ []) ≡ eqb u t
unfolding is_among
among_one t u = or-false (eqb u t)

-- as std says it
pub among_any : (t : ℕ) (xs : List ℕ) → list_any (λ y. nat_eq y t) xs ≡ is_among t xs
unfolding is_among
among_any t [] = refl
among_any t (x ∷ xs) = rw (among_any t xs)

-- ---- a tag less
without_long : (t : ℕ) (ws : List ℕ) → length (without t ws) ≤ length ws
unfolding without
without_long t [] = omega arith
without_long t (w ∷ ws) =
    by_cond (λ (l : List ℕ). length l ≤ suc (length ws)) (eqb w t)
    (λ e. omega (arith, without_long t ws)) (λ e. omega (arith, without_long t ws))

pub without_fewer : (t : ℕ) (ws : List ℕ) → is_among t ws ≡ true → suc (length (without t ws)) ≤ length ws
unfolding is_among without
without_fewer t [] h = absurd (false≢true h)
without_fewer t (w ∷ ws) h =
    ⊎_elim
    (λ (e : eqb w t ≡ true). rw e (omega (arith, without_long t ws)))
    (λ (e : eqb w t ≡ false). rw e (let k = without_fewer t ws (rw e at h) in omega arith))
    (by_bool (eqb w t))

-- ---- those of a list that have not been met
unfoldable pub missing : List ℕ → List ℕ → List ℕ
missing met [] = []
missing met (w ∷ ws) = cond (is_among w met) (missing met ws) (w ∷ missing met ws)

pub missing_none : (ws : List ℕ) → missing [] ws ≡ ws
unfolding missing is_among
missing_none [] = refl
missing_none (w ∷ ws) = rw (missing_none ws)

-- a tag that is met is not missing; another is missing as before
was_met : (q b m : Bool) → (q ≡ true → m ≡ true) → (b && not m) ≡ ((q || b) && not m)
was_met true b m k = rw (k refl, and-false b)
was_met false b m k = refl

not_met : (q b m : Bool) → (q ≡ true → m ≡ false) → (q || (b && not m)) ≡ ((q || b) && not m)
not_met true b m k = rw (k refl)
not_met false b m k = refl

pub equal_tags : (w t : ℕ) (met : List ℕ) → eqb w t ≡ true → is_among t met ≡ is_among w met
equal_tags w t met e = ap (λ (x : ℕ). is_among x met) (sym (eqb-true w t e))

pub among_missing : (t : ℕ) (met ws : List ℕ) → is_among t (missing met ws) ≡ (is_among t ws && not (is_among t met))
unfolding missing is_among
among_missing t met [] = refl
among_missing t met (w ∷ ws) =
    ⊎_elim
    (λ (e : is_among w met ≡ true).
    rw e (among_missing t met ws ∙ was_met (eqb w t) (is_among t ws) (is_among t met) (λ q. equal_tags w t met q ∙ e)))
    (λ (e : is_among w met ≡ false).
    rw e (ap (λ (x : Bool). eqb w t || x) (among_missing t met ws) ∙ not_met (eqb w t) (is_among t ws) (is_among t met) (λ q. equal_tags w t met q ∙ e)))
    (by_bool (is_among w met))

-- one more is met
pub missing_one : (t : ℕ) (met ws : List ℕ) → without t (missing met ws) ≡ missing (met ++ t ∷ []) ws
unfolding missing without
missing_one t met [] = refl
missing_one t met (w ∷ ws) =
    rw (among_append w met (t ∷ []), among_one w t, eqb_sym t w, ← missing_one t met ws) (one (is_among w met))
  where
    one : (c : Bool) → without t (cond c (missing met ws) (w ∷ missing met ws)) ≡ cond (c || eqb w t) (without t (missing met ws)) (w ∷ without t (missing met ws))
    one true = refl
    one false = refl

pub among_without : (t u : ℕ) (ws : List ℕ) → is_among t (without u ws) ≡ (is_among t ws && not (eqb u t))
among_without t u ws =
    let e : without u ws ≡ missing (u ∷ []) ws = sym (ap (without u) (missing_none ws)) ∙ missing_one u [] ws in
    rw (e, among_missing t (u ∷ []) ws, among_one t u)

-- ---- one entry further, where `ms` are still wanted
module _ (o : ByteOrder) (s ms : List ℕ) (at : ℕ) where
  pub taken : (n : ℕ) → 0 < n → is_among (tag_at o s at) ms ≡ true → is_kept_at o s at ≡ true
      → first_each ms (kept_from o s at n) ≡ tag_at o s at ∷ first_each (without (tag_at o s at) ms) (kept_from o s (at + 12) (n - 1))
  unfolding first_each kept_from
  taken zero h a k = absurd (omega arith)
  taken (suc n) h a k = rw (k, a, sub-one)

  pub passed : (n : ℕ) → 0 < n → (is_among (tag_at o s at) ms && is_kept_at o s at) ≡ false
      → first_each ms (kept_from o s at n) ≡ first_each ms (kept_from o s (at + 12) (n - 1))
  unfolding first_each kept_from
  passed zero h e = absurd (omega arith)
  passed (suc n) h e =
      ⊎_elim
      (λ (k : is_kept_at o s at ≡ true). rw (k, sym (and-true (is_among (tag_at o s at) ms)) ∙ (rw k at e), sub-one))
      (λ (k : is_kept_at o s at ≡ false). rw (k, sub-one))
      (by_bool (is_kept_at o s at))

  pub none_left : (n : ℕ) → n ≤ 0 → first_each ms (kept_from o s at n) ≡ []
  unfolding first_each kept_from
  none_left zero h = refl
  none_left (suc n) h = absurd (omega arith)
