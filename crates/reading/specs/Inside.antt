-- What only the code of this crate needs: no promise to a caller rests on it.
use Rattle.std.specs.Prelude.{ℕ, cond, [], eqb}
use Rattle.reading.specs.declared.focus.FocusAreaMode.{FocusAreaMode}
use Rattle.reading.specs.declared.focus.FocusAreaMode.TheVariants.{NoMode}
use Rattle.reading.specs.declared.afinfo.Version.{Version}

-- a mode that is named with 0 alone in byte 4
abbrev pub if_zero : ℕ → FocusAreaMode → FocusAreaMode
if_zero d mode = cond (eqb d 0) mode NoMode

-- what stands past the table of versions
abbrev pub no_version : Version
no_version = record { text = []; layout = 0 }
