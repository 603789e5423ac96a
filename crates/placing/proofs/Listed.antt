-- What holds of a list of named points: it is no longer than the table, each of its points fits, and the index of a number that it has
-- lies in it. The idea: induction along the list, by the test at its first point. Assumes nothing.
use Rattle.std.specs.Prelude.{Some, None, ◌==◌, ◌+◌}
use Rattle.std.specs.List.{position, position_or_len}
use Rattle.std.proofs.lemmas.List.Recursion.{is_position_or_len}
use borrow.Author.Tests.{lt-ltb, le-ltb}
use Prim.Native.Nat.{ℕ, suc, ◌<◌, ◌≤◌}
use mathlib.Core.Bool.{Bool, true, false, cond, ◌&&◌, ◌||◌, false≢true}
use mathlib.Core.List.{List, [], ◌∷◌}
use mathlib.Core.Path.{◌≡◌, refl, ap, sym}
use native.Mathlib.Omega.{arith}
use lib.Dec.{leb, eqb}
use lib.ListN.{length}
use Rattle.laws.proofs.Tests.{both}
use Rattle.placing.specs.Fit.{point_fits}
use Rattle.placing.specs.declared.focus.FocusPoint.{FocusPoint}
use Rattle.placing.specs.declared.points.FocusLayoutPoint.{FocusLayoutPoint}
use Rattle.placing.specs.declared.named.Window.{Window}
use Rattle.placing.specs.Named.{less_origin, fits_window, is_named, is_listed, listed_from, has_number, index_of}
use Rattle.placing.specs.Sound.{AllFit}

-- a number that a list has is at its index
pub present : (n : ℕ) (ps : List FocusPoint) → has_number n ps ≡ true → index_of n ps < length ps
unfolding has_number index_of
present n [] e = absurd (false≢true e)
present n (p ∷ ps) e = here (eqb p.number n) (present n ps) e
  where
    here : (b : Bool) → (has_number n ps ≡ true → index_of n ps < length ps) → (b || has_number n ps) ≡ true →
        cond b 0 (suc (index_of n ps)) < suc (length ps)
    here true rest e = omega arith
    here false rest e = omega (arith, rest e)

-- one that it does not have is past its end
pub absent : (n : ℕ) (ps : List FocusPoint) → has_number n ps ≡ false → index_of n ps ≡ length ps
unfolding has_number index_of
absent n [] e = refl
absent n (p ∷ ps) e = here (eqb p.number n) (absent n ps) e
  where
    here : (b : Bool) → (has_number n ps ≡ false → index_of n ps ≡ length ps) → (b || has_number n ps) ≡ false →
        cond b 0 (suc (index_of n ps)) ≡ suc (length ps)
    here true rest e = absurd (false≢true (sym e))
    here false rest e = ap suc (rest e)

-- so std finds it where the list has it, and nowhere else
index_is : (n : ℕ) (ps : List FocusPoint) → index_of n ps ≡ position_or_len (λ p. p.number == n) ps
unfolding index_of
index_is n ps = is_position_or_len (index_of n) (λ (p : FocusPoint). p.number == n) refl one ps
  where
    one : (p : FocusPoint) (ps : List FocusPoint) → index_of n (p ∷ ps) ≡ cond (p.number == n) 0 (1 + index_of n ps)
    one p ps = let e : suc (index_of n ps) ≡ 1 + index_of n ps = omega arith in rw e

pub found_at : (n : ℕ) (ps : List FocusPoint) → position (λ (p : FocusPoint). p.number == n) ps ≡ cond (has_number n ps) (Some (index_of n ps)) None
found_at n ps = here (has_number n ps) refl
  where
    here : (b : Bool) → has_number n ps ≡ b → position (λ (p : FocusPoint). p.number == n) ps ≡ cond b (Some (index_of n ps)) None
    here true e = let h : position_or_len (λ (p : FocusPoint). p.number == n) ps < length ps = rw (index_is n ps) at (present n ps e) in rw (lt-ltb (position_or_len (λ (p : FocusPoint). p.number == n) ps) (length ps) h, index_is n ps)
    here false e = let h : position_or_len (λ (p : FocusPoint). p.number == n) ps ≡ length ps = rw (index_is n ps) at (absent n ps e) in rw (le-ltb (position_or_len (λ (p : FocusPoint). p.number == n) ps) (length ps) (omega (arith, h)))

module _ (w : Window) (primary mask : ℕ) where
  -- no more points than rows
  pub listed_room : (ps : List FocusLayoutPoint) → length (listed_from w primary mask ps) ≤ length ps
  unfolding listed_from
  listed_room [] = omega arith
  listed_room (p ∷ ps) = here (is_listed w primary mask p) (listed_room ps)
    where
      here : (b : Bool) → length (listed_from w primary mask ps) ≤ length ps →
          length (cond b (less_origin w p ∷ listed_from w primary mask ps) (listed_from w primary mask ps)) ≤ suc (length ps)
      here true rest = omega arith
      here false rest = omega arith

  -- a point that is listed fits
  listed_fits : (p : FocusLayoutPoint) → is_listed w primary mask p ≡ true → point_fits w.frame (less_origin w p) ≡ true
  unfolding is_listed fits_window
  listed_fits p e =
      let across = leb w.origin.x p.center.x in
      let down = leb w.origin.y p.center.y in
      let on = point_fits w.frame (less_origin w p) in
      (both down on (both across (down && on) (both (is_named primary mask p.number) (across && (down && on)) e).1).1).1

  pub listed_fit : (ps : List FocusLayoutPoint) → AllFit w.frame (listed_from w primary mask ps)
  unfolding listed_from
  listed_fit [] = tt
  listed_fit (p ∷ ps) = here (is_listed w primary mask p) refl (listed_fit ps)
    where
      here : (b : Bool) → is_listed w primary mask p ≡ b → AllFit w.frame (listed_from w primary mask ps) →
          AllFit w.frame (cond b (less_origin w p ∷ listed_from w primary mask ps) (listed_from w primary mask ps))
      here true e rest = (listed_fits p e, rest)
      here false e rest = rest
