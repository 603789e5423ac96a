-- What only the code of this crate needs: no promise in 01's words rests on it.
use Rattle.std.specs.Prelude.{Bool, cond, List, length, Option, Some, None, Result, Ok, Err}
use Rattle.reading.specs.Outcome.{Outcome, refused, accepted}
use Rattle.placing.specs.declared.focus.FocusPoint.{FocusPoint}
use Rattle.placing.specs.declared.load.PointPlaces.{PointPlaces}
use Rattle.placing.specs.declared.nikon.Located.{Located}
use Rattle.placing.specs.declared.load.Refusal.{Refusal}
use Rattle.placing.specs.declared.nikon.Located.TheVariants.{Position, Names}
use Rattle.placing.specs.Load.{Focus, alone}
use Rattle.placing.specs.Laid.{refusal_number, places}
use Rattle.placing.specs.Named.{placed_in}

-- points in 39 places, and how many there are
abbrev pub point_places : List FocusPoint → PointPlaces
point_places ps = record { points = places ps; count = length ps }

-- a point of the table that is listed, or is not
abbrev pub candidate_of : Bool → FocusPoint → Option FocusPoint
candidate_of is p = cond is (Some p) None

-- what a load comes to, of where its points are
abbrev pub located_means : Result Located Refusal → Outcome Focus
located_means (Err why) = refused (refusal_number why)
located_means (Ok (Position q m)) = alone q.frame q.point m
located_means (Ok (Names w names m)) = placed_in (accepted w) names.primary names.mask m
