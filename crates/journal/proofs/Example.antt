-- 01's whole case, and 02's page editor: the journal's answers are computed, and the claims give those of the sheet and of the workspace.
-- Assumes nothing.
use mathlib.Core.Path.{refl, ◌∙◌}
use Rattle.numbers.specs.Bytes.{same}
use Rattle.numbers.specs.Numbers.{u16_of, u32_of, shorts_of}
use Rattle.reading.specs.Block.{offset_of, entry_count, directory_of, in_order, by_mark, block_of, size_of, entry_of, has_tag, first_of, find_of}
use Rattle.reading.specs.Values.{manual_focus_of, crop_hi_speed_of, crop_area_of, af_info2_of}
use Rattle.reading.specs.Record.{layout_among, layout_of, area_mode_of, mask_of, size_at, record_in, record_of}
use Rattle.reading.specs.Focus.{in_focus_number, mode_number}
use Rattle.placing.specs.Fit.{axis_fits, has_zero_side, center_lies_on, area_fits, no_area, lies_on, point_fits}
use Rattle.placing.specs.Points.{table_of}
use Rattle.placing.specs.Named.{picture_is, uncropped, placed_frame, marked, fits_window, is_named, is_listed, listed_from, has_number, index_of, placed_in, window_of, named_outcome}
use Rattle.placing.specs.Focus.{records_position, placed_of, focus_of}
use Rattle.reading.specs.Note.{values_in, values_of}
use Rattle.placing.specs.Load.{origin_number}
use Rattle.workspace.specs.Names.{is_bad_name}
use Rattle.journal.specs.Journal.{frame_through, point_through, numbered_steps, frame_after, carried, listed, is_bad_cut, is_outside, journal_load, change_refusal, journal_change, back_refusal, journal_back, numbers, written, journal_list}
use Rattle.journal.specs.Calls.{journal_step, run_journal}
use Rattle.journal.specs.WorkspaceJournal.{kept_under, keep_under, is_ninth, journal_sheet, keep_refusal, journal_keep, journal_return, journal_step_in, run_journal_in}
use Rattle.journal.specs.Example.{whole_case, WholeCase, page_editor, PageEditor}
use Rattle.journal.proofs.Claim.{claim}
use Rattle.journal.proofs.WorkspaceAgrees.{workspace_claim}

pub whole_case_lem : WholeCase
unfolding same u16_of u32_of shorts_of offset_of entry_count directory_of in_order by_mark block_of size_of entry_of has_tag first_of find_of manual_focus_of crop_hi_speed_of crop_area_of layout_among layout_of area_mode_of mask_of size_at record_in record_of af_info2_of in_focus_number mode_number axis_fits has_zero_side center_lies_on area_fits no_area lies_on point_fits table_of picture_is uncropped placed_frame marked fits_window is_named is_listed listed_from has_number index_of placed_in window_of named_outcome records_position placed_of values_in values_of focus_of origin_number frame_through point_through numbered_steps frame_after carried listed is_bad_cut is_outside journal_load change_refusal journal_change numbers written journal_list journal_step run_journal
whole_case_lem = claim whole_case ∙ refl

pub page_editor_lem : PageEditor
unfolding same u16_of u32_of shorts_of offset_of entry_count directory_of in_order by_mark block_of size_of entry_of has_tag first_of find_of manual_focus_of crop_hi_speed_of crop_area_of layout_among layout_of area_mode_of mask_of size_at record_in record_of af_info2_of in_focus_number mode_number axis_fits has_zero_side center_lies_on area_fits no_area lies_on point_fits table_of picture_is uncropped placed_frame marked fits_window is_named is_listed listed_from has_number index_of placed_in window_of named_outcome records_position placed_of values_in values_of focus_of origin_number frame_through point_through numbered_steps frame_after carried listed is_bad_cut is_outside journal_load change_refusal journal_change back_refusal journal_back numbers written journal_list journal_step is_bad_name kept_under keep_under is_ninth journal_sheet keep_refusal journal_keep journal_return journal_step_in run_journal_in
page_editor_lem = workspace_claim page_editor ∙ refl
