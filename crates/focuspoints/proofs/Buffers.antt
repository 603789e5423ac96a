-- Numbers stored one after the other at a buffer's front are those numbers laid over it (`sets-eq`), of a listing's head and of four
-- tags with their count; a listing's points are written first, behind the head's six places. What the code returns of a buffer that is
-- too short or not. Assumes nothing.
use Prim.Native.Nat.{ℕ, ◌+◌, ◌*◌, ◌-◌, ◌<◌, ◌≤◌}
use mathlib.Core.Bool.{Bool, true, false, not}
use mathlib.Core.List.{List, [], ◌∷◌, ◌++◌, append-nil, append_assoc}
use mathlib.Core.Path.{◌≡◌, refl, sym, ap, ◌∙◌}
use lib.ListN.{get_or, length, set, take, drop, length-append, length-drop, take-append-drop}
use lib.Seq.{sets, sets-eq, take_all, drop_at, drop-drop, drop-length, length-take-le}
use native.Mathlib.Nat.{zero-add}
use native.Mathlib.Omega.{arith}
use borrow.Author.Tests.{lt-ltb, le-ltb}
use borrow.Rule.Slice.PartMut.{put_mid, post_of}
use Rattle.placing.specs.declared.focus.FocusPoint.{FocusPoint}
use Rattle.reading.specs.declared.geometry.Size.{Size}
use Rattle.reading.specs.declared.focus.FocusAreaMode.{FocusAreaMode}
use Rattle.placing.specs.declared.load.FocusOrigin.{FocusOrigin}
use Rattle.sheet.specs.Head.{head_of}
use Rattle.sheet.specs.Listing.{flat, over, has_room, with_points}
use Rattle.sheet.proofs.Buffer.{no_room, has_room_lem}
use Rattle.focuspoints.specs.Buffer.{room_number, with_numbers}

pub laid : (vs l : List ℕ) → length vs ≤ length l → sets l 0 vs ≡ over vs l
laid vs l h = sets-eq vs l 0 (rw (zero-add (length vs)) h) ∙ rw (zero-add (length vs))

-- ---- a listing's head
pub head_length : (f : Size) (n k : ℕ) (m : FocusAreaMode) (o : FocusOrigin) → length (head_of f n k m o) ≡ 6
unfolding head_of
head_length f n k m o = refl

pub head_over : (hd l a : List ℕ) → length hd ≡ 6 → a ≡ hd → a ++ drop 6 l ≡ over hd l
head_over hd l a h e = rw (e, h) refl

-- ---- room, or none
pub too_short : (n : ℕ) (vs l : List ℕ) → length l < n → (13 ≡ room_number n (length l)) × (l ≡ with_numbers n vs l)
unfolding room_number with_numbers
too_short n vs l h = rw (lt-ltb (length l) n h) (refl, refl)

pub long_enough : (n : ℕ) (vs l l' : List ℕ) → n ≤ length l → l' ≡ over vs l → (0 ≡ room_number n (length l)) × (l' ≡ with_numbers n vs l)
unfolding room_number with_numbers
long_enough n vs l l' h e = rw (le-ltb (length l) n h) (refl, e)

-- ---- the listing behind the first six places
part_all : (l : List ℕ) → take (length l - 6) (drop 6 l) ≡ drop 6 l
part_all l = take_all (length l - 6) (drop 6 l) (omega (arith, length-drop 6 l))

none_after : (l : List ℕ) → post_of 6 (length l - 6) l ≡ []
none_after l = ap (λ (n : ℕ). drop n (drop 6 l)) (sym (length-drop 6 l)) ∙ drop-length (drop 6 l)

pub front_kept : (l ys : List ℕ) → 6 ≤ length l → 6 ≤ length (put_mid 6 (length l - 6) l ys)
front_kept l ys h =
    rw (length-append (take 6 l) (ys ++ post_of 6 (length l - 6) l)) (omega (arith, length-take-le 6 l h))

-- the points are written behind the first six places, and then the head into them
module _ (ps : List FocusPoint) (n : ℕ) (small : n ≤ 39) (l : List ℕ) (six : 6 ≤ length l) (w : Bool) (ys : List ℕ)
    (p : (w ≡ has_room n (length (take (length l - 6) (drop 6 l)))) × (ys ≡ with_points ps n (take (length l - 6) (drop 6 l)))) where
  behind : (w ≡ has_room n (length (drop 6 l))) × (ys ≡ with_points ps n (drop 6 l))
  behind = rw (part_all l) at p

  pub points_short : not w ≡ true → (vs : List ℕ) → (13 ≡ room_number (6 + 6 * n) (length l)) × (put_mid 6 (length l - 6) l ys ≡ with_numbers (6 + 6 * n) vs l)
  points_short t vs =
      let k = no_room ps n small (drop 6 l) ys w behind t in
      let e : put_mid 6 (length l - 6) l ys ≡ l =
      rw (none_after l, append-nil ys, k.1) (take-append-drop 6 l) in
      rw e (too_short (6 + 6 * n) vs l (omega (arith, length-drop 6 l, k.0)))

  pub points_written : not w ≡ false → (hd : List ℕ) → length hd ≡ 6 → (l' : List ℕ) → l' ≡ over hd (put_mid 6 (length l - 6) l ys)
      → (0 ≡ room_number (6 + 6 * n) (length l)) × (l' ≡ with_numbers (6 + 6 * n) (hd ++ flat (take n ps)) l)
  points_written t hd eh l' e =
      let k = has_room_lem ps n small (drop 6 l) ys w behind t in
      let vs = flat (take n ps) in
      let g : over hd (put_mid 6 (length l - 6) l ys) ≡ over (hd ++ vs) l =
      rw (none_after l, append-nil ys, eh, drop_at (take 6 l) ys 6 (length-take-le 6 l six), k.1, length-append hd vs, eh, append_assoc hd vs, drop-drop (length vs) 6 l) in
      long_enough (6 + 6 * n) (hd ++ vs) l l' (omega (arith, length-drop 6 l, k.0)) (e ∙ g)

-- ---- four tags and their count
four : (ts : List ℕ) → length ts ≡ 4 → ts ≡ get_or ts 0 0 ∷ get_or ts 1 0 ∷ get_or ts 2 0 ∷ get_or ts 3 0 ∷ []
four [] h = absurd (omega arith)
four (a ∷ []) h = absurd (omega arith)
four (a ∷ b ∷ []) h = absurd (omega arith)
four (a ∷ b ∷ c ∷ []) h = absurd (omega arith)
four (a ∷ b ∷ c ∷ d ∷ []) h = refl
four (a ∷ b ∷ c ∷ d ∷ e ∷ ts) h = absurd (omega arith)

pub tag_stores : (l ts : List ℕ) (n a b c d : ℕ) → length ts ≡ 4 → a ≡ get_or ts 0 0 → b ≡ get_or ts 1 0 → c ≡ get_or ts 2 0 → d ≡ get_or ts 3 0
    → 5 ≤ length l → set (set (set (set (set l 0 n) 1 a) 2 b) 3 c) 4 d ≡ over (n ∷ ts) l
tag_stores l ts n a b c d e ea eb ec ed h =
    let f : (a ∷ b ∷ c ∷ d ∷ []) ≡ ts = rw (ea, eb, ec, ed) (sym (four ts e)) in
    laid (n ∷ a ∷ b ∷ c ∷ d ∷ []) l h ∙ ap (λ (xs : List ℕ). over (n ∷ xs) l) f
