-- What list and fit answer and leave on a usable sheet, from what is listed and written. Assumes nothing.
use mathlib.Core.Path.{◌≡◌, refl, sym, ap, ◌∙◌}
use mathlib.Core.Bool.{true, false}
use mathlib.Core.List.{List, ◌++◌}
use Prim.Native.Nat.{ℕ, ◌≤◌}
use lib.ListN.{length, take, drop, length-map}
use lib.Seq.{take_at}
use Rattle.reading.specs.Outcome.{Outcome, refused}
use Rattle.reading.specs.declared.geometry.Size.{Size}
use Rattle.placing.specs.declared.focus.FocusPoint.{FocusPoint}
use Rattle.placing.specs.declared.load.FocusPoints.{FocusPoints}
use Rattle.placing.specs.Fit.{has_zero_side}
use Rattle.shape.specs.Shape.{same_shape}
use Rattle.shape.specs.WorkedBox.{worked_box}
use Rattle.sheet.specs.declared.Sheet.{Sheet}
use Rattle.sheet.specs.declared.Present.{Present}
use Rattle.sheet.specs.Sheet.{usable, load_on, present_frame}
use Rattle.sheet.specs.Listing.{with_points}
use Rattle.sheet.specs.Lists.{listing, list_count, list_outcome, list_buffer, scaled_all, outcome_in_box, buffer_in_box, fit_outcome, fit_buffer}
use Rattle.sheet.specs.Inside.{present_of, written_outcome}
use Rattle.sheet.proofs.Usable.{usable_told}
use Rattle.sheet.proofs.Presented.{count_of_lem, count_room, index_room, frame_of, points_of, outcome_is, buffer_is}

scaled_length : (old new : Size) (ps : List FocusPoint) → length (scaled_all old new ps) ≡ length ps
unfolding scaled_all
scaled_length old new ps = length-map ps _

module _ (s : Sheet) (u : usable s ≡ true) (l : FocusPoints) (el : l ≡ load_on s) (v : Present) (el₀ : v ≡ present_of s 0 l.count) where
  ev : v ≡ present_of s 0 (load_on s).count
  ev = rw el at el₀

  pub present_room : v.count ≤ 39
  present_room = count_room s v ev (usable_told s u)

  pub present_index : v.index ≤ 39
  present_index = index_room s v ev (usable_told s u)

  -- the present frame is the primary's
  in_frame : v.primary.frame ≡ present_frame s
  in_frame = frame_of s 0 (load_on s).count v ev

  -- ---- list
  pub list_answered : (m : ℕ) (x : Outcome (List ℕ)) → x ≡ written_outcome l v.primary.frame v.count v.index m → x ≡ list_outcome s m
  unfolding list_outcome
  list_answered m x e =
      rw (e, el, u)
      (ap (λ (f : Size). written_outcome (load_on s) f v.count v.index m) in_frame ∙ outcome_is s v ev (usable_told s u) _ m)

  pub list_left : (b out : List ℕ) → out ≡ with_points v.points v.count b → out ≡ list_buffer s b
  unfolding list_buffer
  list_left b out e = rw (e, u) (buffer_is s v ev (usable_told s u) v.points _ (points_of s v ev) b)

  -- ---- fit: the box that it works with, then outcome_in_box and buffer_in_box
  -- the first points of those that `scaled_points` gives
  scaled_listed : (box : Size) (qs : List FocusPoint)
      → qs ≡ scaled_all v.primary.frame box (take v.count v.points) ++ drop v.count v.points
      → take v.count qs ≡ scaled_all (present_frame s) box (listing s)
  unfolding list_count
  scaled_listed box qs g =
      ap (take v.count) g
      ∙ take_at (scaled_all v.primary.frame box (take v.count v.points)) (drop v.count v.points) v.count
      (scaled_length v.primary.frame box (take v.count v.points) ∙ ap length (points_of s v ev) ∙ sym (count_of_lem s v ev))
      ∙ ap (scaled_all v.primary.frame box) (points_of s v ev)
      ∙ ap (λ (f : Size). scaled_all f box (listing s)) in_frame

  module _ (size box : Size) (eb : box ≡ worked_box v.primary.frame size) where
    -- the box is that of the present frame
    right_box : box ≡ worked_box (present_frame s) size
    right_box = eb ∙ ap (λ (f : Size). worked_box f size) in_frame

    outcome_in : (m : ℕ) (x : Outcome (List ℕ)) → x ≡ outcome_in_box s box m → x ≡ fit_outcome s size m
    unfolding fit_outcome
    outcome_in m x e = rw (← right_box) e

    buffer_in : (b out : List ℕ) → out ≡ buffer_in_box s box b → out ≡ fit_buffer s size b
    unfolding fit_buffer
    buffer_in b out e = rw (← right_box) e

    pub zero_box : has_zero_side box ≡ true → (m : ℕ) → refused 12 ≡ fit_outcome s size m
    unfolding outcome_in_box
    zero_box z m = outcome_in m (refused 12) (rw (u, z) refl)

    pub zero_box_kept : has_zero_side box ≡ true → (b : List ℕ) → b ≡ fit_buffer s size b
    unfolding buffer_in_box
    zero_box_kept z b = buffer_in b b (rw (u, z) refl)

    module _ (z : has_zero_side box ≡ false) where
      -- the shape of the present frame
      of_present : same_shape (present_frame s) box ≡ same_shape v.primary.frame box
      of_present = sym (ap (λ (f : Size). same_shape f box) in_frame)

      module _ (d : same_shape v.primary.frame box ≡ false) where
        pub shapes_differ : (m : ℕ) → refused 19 ≡ fit_outcome s size m
        unfolding outcome_in_box
        shapes_differ m = outcome_in m (refused 19) (rw (u, z, of_present, d) refl)

        pub shapes_differ_kept : (b : List ℕ) → b ≡ fit_buffer s size b
        unfolding buffer_in_box
        shapes_differ_kept b = buffer_in b b (rw (u, z, of_present, d) refl)

      module _ (d : same_shape v.primary.frame box ≡ true) where
        pub fit_answered : (m : ℕ) (x : Outcome (List ℕ)) → x ≡ written_outcome l box v.count v.index m → x ≡ fit_outcome s size m
        unfolding outcome_in_box
        fit_answered m x e = outcome_in m x (rw (e, el, u, z, of_present, d) (outcome_is s v ev (usable_told s u) box m))

        pub fit_left : (qs : List FocusPoint)
            → qs ≡ scaled_all v.primary.frame box (take v.count v.points) ++ drop v.count v.points
            → (b out : List ℕ) → out ≡ with_points qs v.count b → out ≡ fit_buffer s size b
        unfolding buffer_in_box
        fit_left qs g b out e =
            buffer_in b out
            (rw (e, u, z, of_present, d) (buffer_is s v ev (usable_told s u) qs _ (scaled_listed box qs g) b))
