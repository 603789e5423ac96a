-- 01's whole case, byte for byte: computed from the definitions alone. Assumes nothing.
use mathlib.Core.Path.{refl}
use mathlib.Core.List.{flatten}
use Rattle.numbers.specs.Bytes.{same}
use Rattle.numbers.specs.Numbers.{u16_of, u32_of, shorts_of}
use Rattle.reading.specs.Block.{offset_of, entry_count, directory_of, in_order, by_mark, block_of, size_of, entry_of, has_tag, first_of, find_of}
use Rattle.reading.specs.Values.{manual_focus_of, crop_hi_speed_of, crop_area_of, af_info2_of}
use Rattle.reading.specs.Record.{layout_among, layout_of, area_mode_of, mask_of, size_at, record_in, record_of}
use Rattle.reading.specs.Focus.{in_focus_number, mode_number}
use Rattle.placing.specs.Fit.{axis_fits, has_zero_side, center_lies_on, area_fits, no_area, lies_on, point_fits}
use Rattle.placing.specs.Points.{table_of}
use Rattle.placing.specs.Named.{picture_is, uncropped, placed_frame, marked, fits_window, is_named, is_listed, listed_from, has_number, index_of, placed_in, window_of, named_outcome}
use Rattle.placing.specs.Focus.{records_position, placed_of, focus_of}
use Rattle.reading.specs.Note.{values_in, values_of}
use Rattle.placing.specs.Load.{origin_number}
use Rattle.journal.specs.Journal.{frame_through, point_through, numbered_steps, frame_after, carried, listed, is_bad_cut, is_outside, journal_load, change_refusal, journal_change, numbers, written, journal_list}
use Rattle.journal.specs.Calls.{journal_step}
use Rattle.text.specs.Number.{digits_in, digits_of}
use Rattle.answers.specs.Answers.{head_text, point_text, points_text}
use Rattle.hex_lines.specs.Hex.{digit_of, all_digits, well_formed, half_of, bytes_of, sum}
use Rattle.calls.specs.Format.{sides_at, model_part, block_part, sides_agree, optional, well_formed_load, load_call, cut_call, orient_call, by_code, call_of}
use Rattle.session.specs.Lines.{spelled_in, spelled}
use Rattle.session.specs.Texts.{given_text, journal_texts}
use Rattle.script.specs.Script.{lines_from, script_text}
use Rattle.script.specs.Example.{WholeCaseText}

pub whole_case_text : WholeCaseText
unfolding same u16_of u32_of shorts_of offset_of entry_count directory_of in_order by_mark block_of size_of entry_of has_tag first_of find_of manual_focus_of crop_hi_speed_of crop_area_of layout_among layout_of area_mode_of mask_of size_at record_in record_of af_info2_of in_focus_number mode_number axis_fits has_zero_side center_lies_on area_fits no_area lies_on point_fits table_of picture_is uncropped placed_frame marked fits_window is_named is_listed listed_from has_number index_of placed_in window_of named_outcome records_position placed_of values_in values_of focus_of origin_number frame_through point_through numbered_steps frame_after carried listed is_bad_cut is_outside journal_load change_refusal journal_change numbers written journal_list journal_step digits_in digits_of head_text point_text points_text digit_of all_digits well_formed half_of bytes_of sum sides_at model_part block_part sides_agree optional well_formed_load load_call cut_call orient_call by_code call_of spelled_in spelled given_text journal_texts lines_from flatten script_text
whole_case_text = refl
