-- The starred examples of 01 hold: the table is computed by the definitions. Assumes nothing.
use mathlib.Core.Path.{refl}
use Rattle.numbers.specs.Bytes.{same}
use Rattle.reading.specs.Focus.{in_focus_number}
use Rattle.reading.specs.Record.{layout_among, layout_of, record_of}
use Rattle.placing.specs.Fit.{axis_fits, has_zero_side, center_lies_on, area_fits, no_area, lies_on, point_fits, same_size}
use Rattle.placing.specs.Scale.{scale_of, trim_of, scaled_side, scaled_center, scaled_area, kept_area, scaled_size, scaled_point}
use Rattle.placing.specs.Points.{table_of}
use Rattle.placing.specs.Named.{same_place, picture_is, on_crop, uncropped, placed_frame, marked, fits_window, is_named, is_listed, listed_from, has_number, index_of, placed_in, window_of, named_outcome}
use Rattle.placing.specs.Examples.{same_point, is_only, agrees, rows_agree, Starred}

pub starred : Starred
unfolding rows_agree agrees is_only same_point in_focus_number same layout_among layout_of record_of table_of axis_fits has_zero_side center_lies_on area_fits no_area lies_on point_fits scale_of trim_of scaled_side scaled_center scaled_area kept_area scaled_size scaled_point same_size same_place picture_is on_crop uncropped placed_frame marked fits_window is_named is_listed listed_from has_number index_of placed_in window_of named_outcome
starred = refl
