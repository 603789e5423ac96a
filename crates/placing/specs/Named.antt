-- 01, 'Named points': which points of the table a record names, and where they lie in the picture's frame.
use Rattle.std.specs.Prelude.{ℕ, suc, ◌-◌, ◌/◌, ◌%◌, ◌^◌, Bool, true, false, cond, ◌&&◌, ◌||◌, List, [], ◌∷◌, leb, eqb, Option, Some, None}
use Rattle.reading.specs.Outcome.{Outcome, refused, accepted}
use Rattle.reading.specs.declared.geometry.Size.{Size}
use Rattle.reading.specs.declared.geometry.Point.{Point}
use Rattle.reading.specs.declared.focus.InFocus.TheVariants as answers
use Rattle.reading.specs.declared.focus.FocusAreaMode.{FocusAreaMode}
use Rattle.reading.specs.declared.nikon.CropHiSpeed.{CropHiSpeed}
use Rattle.reading.specs.declared.afinfo.NamedPoints.{NamedPoints}
use Rattle.placing.specs.declared.focus.FocusPoint.{FocusPoint}
use Rattle.placing.specs.Fit.{point_fits, same_size, by}
use Rattle.placing.specs.declared.load.FocusOrigin.TheVariants.{Table}
use Rattle.placing.specs.Load.{Focus}
use Rattle.placing.specs.declared.points.FocusLayoutPoint.{FocusLayoutPoint}
use Rattle.placing.specs.declared.named.Window.{Window}
use Rattle.placing.specs.Sound.{Sound}
use Rattle.placing.specs.declared.points.PointTable.{PointTable}
use Rattle.placing.specs.declared.points.PointTable.TheVariants.{NikonD600}
use Rattle.placing.specs.Points.{table_of, points}

-- what a record names: the layout code of the numbers, the primary's number and the mask
abbrev pub names_of : ℕ → ℕ → ℕ → Option NamedPoints
names_of code primary mask = Some (record { layout_code = code; primary = primary; mask = mask })

-- a part of the table's frame: its size, and the origin from which it starts
abbrev pub window : Size → ℕ → ℕ → Window
window size left top = record { frame = size; origin = record { x = left; y = top } }

-- "frame 6016 by 4016"
abbrev pub whole : Window
whole = window (by 6016 4016) 0 0

-- "mode 2, origin (1040, 696), picture size none or 3936 by 2624 ..; that size is the frame"
abbrev pub dx : Window
dx = window (by 3936 2624) 1040 696

-- "frame 6010 by 4006 from (3, 5)"
abbrev pub medium : Window
medium = window (by 6010 4006) 3 5

unfoldable pub same_place : Point → Point → Bool
same_place a b = eqb a.x b.x && eqb a.y b.y

-- whether a picture's size is this; of one that is missing, what `missing` says
unfoldable pub picture_is : Option Size → Size → Bool → Bool
picture_is None size missing = missing
picture_is (Some picture) size missing = same_size picture size

-- the picture's size is given, and is this
abbrev pub given_as : Option Size → Size → Bool
given_as picture size = picture_is picture size false

-- "picture size none or" this
abbrev pub none_or : Option Size → Size → Bool
none_or picture size = picture_is picture size true

-- "Crop with cropped ≠ original: mode 2, origin (1040, 696), picture size none or 3936 by 2624, else 6; that size is the frame."
unfoldable pub on_crop : CropHiSpeed → Option Size → Outcome Window
on_crop crop picture =
    cond (eqb crop.mode 2 && (same_place crop.origin dx.origin && none_or picture dx.frame)) (accepted dx) (refused 6)

-- "Otherwise picture 4512 by 3008 gives frame 6010 by 4006 from (3, 5); any other gives the whole frame."
unfoldable pub uncropped : Option Size → Window
uncropped picture = cond (given_as picture (by 4512 3008)) medium whole

-- "cropped ≠ original", "Otherwise"
unfoldable pub placed_frame : Option CropHiSpeed → Option Size → Outcome Window
placed_frame None picture = accepted (uncropped picture)
placed_frame (Some crop) picture =
    cond (same_size crop.cropped crop.original) (accepted (uncropped picture)) (on_crop crop picture)

-- what the code's answer means in 01's numbers
abbrev pub frame_means : Option Window → Outcome Window
frame_means None = refused 6
frame_means (Some w) = accepted w

-- "Point number n has mask bit n − 1, least significant first."
unfoldable pub marked : ℕ → ℕ → Bool
marked mask n = eqb (mask / 2 ^ (n - 1) % 2) 1

-- "less origin"; "a named point's is always unrecorded", the in-focus byte
abbrev pub less_origin : Window → FocusLayoutPoint → FocusPoint
less_origin w p =
    record {
      number = p.number;
      center = record { x = p.center.x - w.origin.x; y = p.center.y - w.origin.y };
      size = p.size;
      in_focus = answers.Unrecorded;
    }

-- "that fit": a center before the origin is below 0 in the window, so off it
unfoldable pub fits_window : Window → FocusLayoutPoint → Bool
fits_window w p =
    leb w.origin.x p.center.x && (leb w.origin.y p.center.y && point_fits w.frame (less_origin w p))

-- "marked or primary"
unfoldable pub is_named : ℕ → ℕ → ℕ → Bool
is_named primary mask n = eqb n primary || marked mask n

-- "marked or primary points, .., that fit"
unfoldable pub is_listed : Window → ℕ → ℕ → FocusLayoutPoint → Bool
is_listed w primary mask p = is_named primary mask p.number && fits_window w p

-- "Listed: marked or primary points, less origin, that fit, in table order."
unfoldable pub listed_from : Window → ℕ → ℕ → List FocusLayoutPoint → List FocusPoint
listed_from w primary mask [] = []
listed_from w primary mask (p ∷ ps) =
    cond (is_listed w primary mask p) (less_origin w p ∷ listed_from w primary mask ps) (listed_from w primary mask ps)

abbrev pub listed_points : Window → ℕ → ℕ → List FocusPoint
listed_points w primary mask = listed_from w primary mask points

-- whether a list has a point of a number
unfoldable pub has_number : ℕ → List FocusPoint → Bool
has_number n [] = false
has_number n (p ∷ ps) = eqb p.number n || has_number n ps

-- the index of the first point of a number; without one, how many points there are
unfoldable pub index_of : ℕ → List FocusPoint → ℕ
index_of n [] = 0
index_of n (p ∷ ps) = cond (eqb p.number n) 0 (suc (index_of n ps))

-- what is placed in a window, with its primary
abbrev pub window_focus : Window → ℕ → ℕ → FocusAreaMode → Focus
window_focus w primary mask mode =
    record {
      frame = w.frame;
      points = listed_points w primary mask;
      primary = index_of primary (listed_points w primary mask);
      mode = mode;
      origin = Table;
    }

-- "Primary not listed: 6."
unfoldable pub placed_in : Outcome Window → ℕ → ℕ → FocusAreaMode → Outcome Focus
placed_in (refused n) primary mask mode = refused n
placed_in (accepted w) primary mask mode =
    cond (has_number primary (listed_points w primary mask)) (accepted (window_focus w primary mask mode)) (refused 6)

-- "The model must match in full, and the layout code", which is 3
abbrev pub window_by : Option PointTable → ℕ → Option CropHiSpeed → Option Size → Outcome Window
window_by None code crop picture = refused 6
window_by (Some NikonD600) code crop picture = cond (eqb code 3) (placed_frame crop picture) (refused 6)

unfoldable pub window_of : ℕ → List ℕ → Option CropHiSpeed → Option Size → Outcome Window
window_of code model crop picture = window_by (table_of model) code crop picture

-- "no recorded position and named points cannot be placed": 6
unfoldable pub named_outcome : Option NamedPoints → List ℕ → Option CropHiSpeed → Option Size → FocusAreaMode → Outcome Focus
named_outcome None model crop picture mode = refused 6
named_outcome (Some names) model crop picture mode =
    placed_in (window_of names.layout_code model crop picture) names.primary names.mask mode

-- named points keep the promise of every accepted load; proofs/NamedSound.antt has the proof
abbrev pub NamedSound : Type 0
NamedSound =
    (named : Option NamedPoints) (model : List ℕ) (crop : Option CropHiSpeed) (picture : Option Size) (mode : FocusAreaMode)
    → Sound (named_outcome named model crop picture mode)
