-- What the value that `focus` gives tells: an error, the load is refused by its number; points, the load is accepted and stands in the
-- fields. The idea: a refusal is no acceptance, on either side. Assumes nothing.
use Rattle.std.specs.Prelude.{Ok, Err}
use mathlib.Core.Bool.{false≢true}
use mathlib.Core.Path.{◌≡◌, refl, sym, ap}
use Rattle.reading.specs.Outcome.{Outcome, refused, accepted, is_accepted, number_of}
use Rattle.placing.specs.declared.load.FocusPoints.{FocusPoints}
use Rattle.placing.specs.declared.load.Refusal.{Refusal}
use Rattle.placing.specs.Load.{Focus}
use Rattle.placing.specs.Laid.{refusal_number, laid_focus, focus_means, laid_out}

pub when_refused : (o : Outcome Focus) (why : Refusal) → focus_means (Err why) ≡ laid_out o → o ≡ refused (refusal_number why)
unfolding laid_out
when_refused (refused n) why e = ap (λ (x : Outcome FocusPoints). refused (number_of x)) (sym e)
when_refused (accepted f) why e = absurd (false≢true (ap is_accepted e))

-- an accepted load, and fields that hold it
pub record IsLaid (o : Outcome Focus) (l : FocusPoints) : Type 0 where
  pub focus : Focus
  pub is : o ≡ accepted focus
  pub laid : l ≡ laid_focus focus

fields : FocusPoints → Outcome FocusPoints → FocusPoints
fields l (refused n) = l
fields l (accepted m) = m

pub when_accepted : (o : Outcome Focus) (l : FocusPoints) → focus_means (Ok l) ≡ laid_out o → IsLaid o l
unfolding laid_out fields
when_accepted (refused n) l e = absurd (false≢true (sym (ap is_accepted e)))
when_accepted (accepted f) l e = record { focus = f; is = refl; laid = ap (fields l) e }
