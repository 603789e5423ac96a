-- 01's numbers for what a listing says of its points.
use Rattle.std.specs.Prelude.{ℕ}
use Rattle.reading.specs.declared.focus.InFocus.{InFocus}
use Rattle.reading.specs.declared.focus.InFocus.TheVariants.{Unrecorded, No, Yes}
use Rattle.reading.specs.declared.focus.FocusAreaMode.{FocusAreaMode}
use Rattle.reading.specs.declared.focus.FocusAreaMode.TheVariants.{NoMode, Single, Dynamic, Auto, Tracking}

-- "in-focus (0 unrecorded, 1 no, 2 yes)"
unfoldable pub in_focus_number : InFocus → ℕ
in_focus_number Unrecorded = 0
in_focus_number No = 1
in_focus_number Yes = 2

-- "mode (0 none, 1 to 4 as named above)"
unfoldable pub mode_number : FocusAreaMode → ℕ
mode_number NoMode = 0
mode_number Single = 1
mode_number Dynamic = 2
mode_number Auto = 3
mode_number Tracking = 4
