-- Named points, laid out: the places hold the list, and the primary is listed where its number is found among them. Assumes nothing.
use Rattle.std.specs.Prelude.{Option, Some, None, is_some, ◌==◌, Ok, Err}
use Rattle.std.specs.List.{position}
use Prim.Native.Nat.{ℕ, ◌-◌, ◌≤◌}
use mathlib.Core.Bool.{Bool, true, false, cond, false≢true}
use mathlib.Core.Path.{◌≡◌, refl, sym, ap, ◌∙◌}
use native.Mathlib.Omega.{arith}
use lib.ListN.{length, take, replicate}
use lib.Seq.{take_at}
use Rattle.reading.specs.Outcome.{accepted, refused}
use Rattle.reading.specs.declared.focus.FocusAreaMode.{FocusAreaMode}
use Rattle.placing.specs.declared.focus.FocusPoint.{FocusPoint}
use Rattle.placing.specs.declared.named.Window.{Window}
use Rattle.placing.specs.declared.load.PointPlaces.{PointPlaces}
use Rattle.placing.specs.declared.load.Refusal.TheVariants.{NamesUnplaced}
use Rattle.placing.specs.declared.load.FocusOrigin.TheVariants.{Table}
use Rattle.placing.specs.Load.{no_point}
use Rattle.placing.specs.Points.{points as table}
use Rattle.placing.specs.Inside.{point_places}
use Rattle.placing.specs.Laid.{places, refusal_number, focus_means, laid_focus, laid_out}
use Rattle.placing.specs.Named.{listed_points, has_number, index_of, window_focus, placed_in}
use Rattle.placing.proofs.Listed.{found_at, listed_room}

module _ (w : Window) (primary mask : ℕ) (mode : FocusAreaMode) (l : PointPlaces) (el : l ≡ point_places (listed_points w primary mask)) where
  pub count_fits : l.count ≤ 39
  count_fits =
      let room : length (listed_points w primary mask) ≤ 39 = listed_room w primary mask table in
      let counted : l.count ≡ length (listed_points w primary mask) = ap (λ (x : PointPlaces). x.count) el in
      omega (arith, counted)

  -- what is found of the primary's number
  module _ (o : Option ℕ) (eo : o ≡ position (λ (p : FocusPoint). p.number == primary) (take l.count l.points)) where
    found : o ≡ cond (has_number primary (listed_points w primary mask)) (Some (index_of primary (listed_points w primary mask))) None
    unfolding places
    found =
        let ps = listed_points w primary mask in
        eo ∙ rw el (ap (position (λ (p : FocusPoint). p.number == primary)) (take_at ps (replicate (39 - length ps) no_point) (length ps) refl) ∙ found_at primary ps)

    pub unlisted : o ≡ None → focus_means (Err NamesUnplaced) ≡ laid_out (placed_in (accepted w) primary mask mode)
    unfolding placed_in refusal_number laid_out
    unlisted e = here (has_number primary (listed_points w primary mask)) (sym e ∙ found)
      where
        here : (b : Bool) → None ≡ cond b (Some (index_of primary (listed_points w primary mask))) None →
            refused 6 ≡ laid_out (cond b (accepted (window_focus w primary mask mode)) (refused 6))
        here true k = absurd (false≢true (ap is_some k))
        here false k = refl

    pub listed : (i : ℕ) → o ≡ Some i →
        focus_means
        (Ok
        (record {
          frame = w.frame;
          points = l.points;
          count = l.count;
          primary = i;
          area_mode = mode;
          origin = Table;
        }))
        ≡ laid_out (placed_in (accepted w) primary mask mode)
    unfolding placed_in laid_out laid_focus
    listed i e = here (has_number primary (listed_points w primary mask)) (sym e ∙ found)
      where
        here : (b : Bool) → Some i ≡ cond b (Some (index_of primary (listed_points w primary mask))) None →
            focus_means
            (Ok
            (record {
              frame = w.frame;
              points = l.points;
              count = l.count;
              primary = i;
              area_mode = mode;
              origin = Table;
            }))
            ≡ laid_out (cond b (accepted (window_focus w primary mask mode)) (refused 6))
        here true k = let f : i ≡ index_of primary (listed_points w primary mask) = search k in rw (f, el)
        here false k = absurd (false≢true (ap is_some (sym k)))
