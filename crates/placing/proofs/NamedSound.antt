-- Named points keep the promise of every accepted load. The idea: what is listed in a window was tested to fit it, and the table has no
-- more points than there are places. Assumes nothing.
use Rattle.std.specs.Prelude.{Some, None}
use Prim.Native.Nat.{ℕ}
use mathlib.Core.Path.{◌≡◌, refl}
use mathlib.Core.Bool.{Bool, true, false, cond}
use native.Mathlib.Omega.{arith}
use Rattle.reading.specs.Outcome.{Outcome, refused, accepted}
use Rattle.reading.specs.declared.focus.FocusAreaMode.{FocusAreaMode}
use Rattle.placing.specs.declared.named.Window.{Window}
use Rattle.placing.specs.Points.{points}
use Rattle.placing.specs.Named.{listed_points, has_number, window_focus, placed_in, window_of, named_outcome, NamedSound}
use Rattle.placing.specs.Sound.{Sound}
use Rattle.placing.proofs.Listed.{present, listed_room, listed_fit}

module _ (primary mask : ℕ) (mode : FocusAreaMode) where
  in_window_lem : (w : Window) → Sound (placed_in (accepted w) primary mask mode)
  unfolding placed_in
  in_window_lem w = here (has_number primary (listed_points w primary mask)) refl
    where
      here : (b : Bool) → has_number primary (listed_points w primary mask) ≡ b →
          Sound (cond b (accepted (window_focus w primary mask mode)) (refused 6))
      here true e =
          let i = present primary (listed_points w primary mask) e in
          record {
            count_some = omega (arith, i);
            room = listed_room w primary mask points;
            primary_in = i;
            fit = listed_fit w primary mask points;
          }
      here false e = tt

  in_frame : (o : Outcome Window) → Sound (placed_in o primary mask mode)
  unfolding placed_in
  in_frame (refused n) = tt
  in_frame (accepted w) = in_window_lem w

pub named_sound : NamedSound
unfolding named_outcome
named_sound None model crop picture mode = tt
named_sound (Some names) model crop picture mode = in_frame names.primary names.mask mode (window_of names.layout_code model crop picture)
