-- Six numbers a point, and numbers written over a buffer's front: lengths, one more point, and with or without room. Assumes nothing.
use Prim.Native.Nat.{ℕ, ◌+◌, ◌*◌, ◌<◌, ◌≤◌}
use mathlib.Core.Bool.{Bool, true, false, not, and-false}
use mathlib.Core.List.{List, [], ◌∷◌, ◌++◌, append_assoc}
use mathlib.Core.Path.{◌≡◌, refl, sym, ap, ◌∙◌}
use lib.ListN.{get_or, length, take, drop, length-append, length-drop}
use lib.Seq.{take-suc, length-take-le, sets, sets-eq, take-append_seam, drop-append-add, drop-drop}
use native.Mathlib.Omega.{arith}
use lib.Dec.{leb}
use borrow.Author.Tests.{leb-true, leb-false, le-leb, lt-leb, not-true, not-false}
use native.Mathlib.Numerals.{add-one}
use Rattle.placing.specs.declared.focus.FocusPoint.{FocusPoint}
use Rattle.placing.specs.Load.{no_point}
use Rattle.sheet.specs.Listing.{six, flat, over, has_room, with_points}

pub six_length : (p : FocusPoint) → length (six p) ≡ 6
unfolding six
six_length p = refl

pub flat_append : (a b : List FocusPoint) → flat (a ++ b) ≡ flat a ++ flat b
unfolding flat
flat_append [] b = refl
flat_append (p ∷ a) b = ap (λ (l : List ℕ). six p ++ l) (flat_append a b) ∙ sym (append_assoc (six p) (flat a) (flat b))

pub flat_one : (p : FocusPoint) → flat (p ∷ []) ≡ six p
unfolding flat six
flat_one p = refl

pub flat_length : (a : List FocusPoint) → length (flat a) ≡ 6 * length a
unfolding flat
flat_length [] = refl
flat_length (p ∷ a) = length-append (six p) (flat a) ∙ (let h = flat_length a in let g = six_length p in omega arith)

pub over_length : (vs l : List ℕ) → length vs ≤ length l → length (over vs l) ≡ length l
over_length vs l h = rw (length-append, length-drop) (omega arith)

-- more numbers, written behind those that are written
pub over_more : (vs ws l : List ℕ) → length vs + length ws ≤ length l → sets (over vs l) (length vs) ws ≡ over (vs ++ ws) l
over_more vs ws l h =
    sets-eq ws (over vs l) (length vs) (rw (over_length vs l (omega arith)) h)
    ∙ rw (take-append_seam vs (drop (length vs) l), drop-append-add vs (drop (length vs) l) (length ws), drop-drop (length ws) (length vs) l, length-append vs ws)

-- ---- points without room are not written
pub too_many : (ps : List FocusPoint) (n : ℕ) (b : List ℕ) → 39 < n → (false ≡ has_room n (length b)) × (b ≡ with_points ps n b)
unfolding has_room with_points
too_many ps n b h = rw (lt-leb n 39 h) (refl, refl)

pub too_short : (ps : List FocusPoint) (n : ℕ) (b : List ℕ) → length b < 6 * n → (false ≡ has_room n (length b)) × (b ≡ with_points ps n b)
unfolding has_room with_points
too_short ps n b h = rw (lt-leb (6 * n) (length b) h, and-false (leb n 39)) (refl, refl)

-- ---- the first i of 39 points are written over out₀, of n that have room in it
module _ (ps : List FocusPoint) (lp : length ps ≡ 39) (n : ℕ) (hn : n ≤ 39) (out out₀ : List ℕ) (room : 6 * n ≤ length out₀)
    (i : ℕ) (hi : i ≤ n) (eo : out ≡ over (flat (take i ps)) out₀) where
  written : length (flat (take i ps)) ≡ i * 6
  written = omega (arith, flat_length (take i ps), length-take-le i ps (omega arith))

  pub same_room : length out ≡ length out₀
  same_room = ap length eo ∙ over_length (flat (take i ps)) out₀ (omega (arith, written))

  pub room_left : i < n → i * 6 + 6 ≤ length out
  room_left h = omega (arith, same_room)

  pub one_written : i < n → (out' : List ℕ) → out' ≡ sets out (i * 6) (six (get_or ps i no_point)) → out' ≡ over (flat (take (i + 1) ps)) out₀
  one_written h out' e =
      let p = get_or ps i no_point in
      let g : flat (take (i + 1) ps) ≡ flat (take i ps) ++ six p =
      rw add-one (ap flat (take-suc ps i no_point (omega arith)) ∙ flat_append (take i ps) (p ∷ []) ∙ ap (λ (l : List ℕ). flat (take i ps) ++ l) (flat_one p)) in
      e ∙ ap (λ (l : List ℕ). sets l (i * 6) (six p)) eo
      ∙ ap (λ (k : ℕ). sets (over (flat (take i ps)) out₀) k (six p)) (sym written)
      ∙ over_more (flat (take i ps)) (six p) out₀ (omega (arith, written, six_length p))
      ∙ sym (ap (λ (l : List ℕ). over l out₀) g)

  pub all_written : n ≤ i → (true ≡ has_room n (length out₀)) × (out ≡ with_points ps n out₀)
  unfolding has_room with_points
  all_written h =
      let e : i ≡ n = omega arith in
      rw (le-leb n 39 hn, le-leb (6 * n) (length out₀) room) (refl, eo ∙ rw e)

-- ---- what `write_points` says of n points, 39 at the most
module _ (ps : List FocusPoint) (n : ℕ) (h : n ≤ 39) (b out : List ℕ) (w : Bool)
    (p : (w ≡ has_room n (length b)) × (out ≡ with_points ps n b)) where
  by_length : has_room n (length b) ≡ leb (6 * n) (length b)
  unfolding has_room
  by_length = rw (le-leb n 39 h)

  pub no_room : not w ≡ true → (length b < 6 * n) × (out ≡ b)
  unfolding with_points
  no_room t =
      let e : has_room n (length b) ≡ false = sym p.0 ∙ not-true w t in
      (leb-false (6 * n) (length b) (sym by_length ∙ e), p.1 ∙ rw e)

  pub has_room_lem : not w ≡ false → (6 * n ≤ length b) × (out ≡ over (flat (take n ps)) b)
  unfolding with_points
  has_room_lem t =
      let e : has_room n (length b) ≡ true = sym p.0 ∙ not-false w t in
      (leb-true (6 * n) (length b) (sym by_length ∙ e), p.1 ∙ rw e)
