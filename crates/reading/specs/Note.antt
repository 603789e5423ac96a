-- 01: "A reading of a note is its lent bytes with their byte order, given together." The struct `Note` is that; what is read
-- from one is said by the definitions of Values at its order and its bytes. Here is all that a load is told by the note of a
-- block: the record and what there is of the crop, or a number from 1 to 4.
use Rattle.std.specs.Prelude.{ℕ, List, Option, Result, Ok, Err}
use Rattle.reading.specs.Outcome.{Outcome, refused, accepted, and_then, refused_too}
use Rattle.reading.specs.Block.{block_of}
use Rattle.reading.specs.Values.{af_info2_of, manual_focus_of, crop_hi_speed_of, crop_area_of}
use Rattle.numbers.specs.declared.io.ByteOrder.{ByteOrder}
use Rattle.reading.specs.declared.geometry.Size.{Size}
use Rattle.reading.specs.declared.afinfo.FocusRecord.{FocusRecord}
use Rattle.reading.specs.declared.note.NoteValues.{NoteValues}
use Rattle.reading.specs.declared.note.NoteRefusal.{NoteRefusal}
use Rattle.reading.specs.declared.note.NoteRefusal.TheVariants.{Unreadable, NoRecord, ManualFocus, BadRecord}

-- a record, with what the note tells of the crop in raw data of that size
abbrev pub with_crop : ByteOrder → List ℕ → Option Size → FocusRecord → NoteValues
with_crop o s raw r = record { recorded = r; crop = crop_hi_speed_of o s; area = crop_area_of o s raw }

-- "FocusMode is MANUAL": 3, which comes after 2 (no record of its type) and before 4 (a record that cannot be used)
unfoldable pub values_in : ByteOrder → List ℕ → Option Size → Outcome NoteValues
values_in o s raw =
    and_then (refused_too 3 (manual_focus_of o s) (af_info2_of o s)) (λ r. accepted (with_crop o s raw r))

-- "block under 8 or over 1,048,576 bytes, bad header, or directory past the end": 1; else what the note tells in the block's order
unfoldable pub values_of : List ℕ → Option Size → Outcome NoteValues
values_of s raw = and_then (block_of s) (λ o. values_in o s raw)

-- 01's number for each way in which a note is refused
abbrev pub note_refusal_number : NoteRefusal → ℕ
note_refusal_number Unreadable = 1
note_refusal_number NoRecord = 2
note_refusal_number ManualFocus = 3
note_refusal_number BadRecord = 4

-- what the code's answer means in 01's numbers: 1 to 4, or the values
abbrev pub note_means : Result NoteValues NoteRefusal → Outcome NoteValues
note_means (Err why) = refused (note_refusal_number why)
note_means (Ok v) = accepted v
