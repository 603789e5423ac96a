-- What only the code of this crate needs: no promise to a caller rests on it.
use Rattle.std.specs.Prelude.{ℕ, List, ◌++◌, take}
use Rattle.placing.specs.declared.load.FocusPoints.{FocusPoints}
use Rattle.sheet.specs.Head.{head_of}
use Rattle.sheet.specs.Listing.{flat}

-- the numbers of a load's listing as the code lays them out: the head, and the points' numbers
unfoldable pub laid_numbers : FocusPoints → List ℕ
laid_numbers f =
    head_of f.frame f.count f.primary f.area_mode f.origin
    ++ flat (take f.count f.points)
