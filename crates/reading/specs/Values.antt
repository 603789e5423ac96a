-- 01, "Four values": manual focus, the crop, the crop area, and which value is the record (what a record says is in Record).
use Rattle.std.specs.Prelude.{ℕ, zero, suc, ◌+◌, ◌*◌, Bool, cond, ◌&&◌, ◌||◌, List, [], ◌∷◌, reverse, length, drop, leb, ltb, eqb, Option, Some, None}
use Rattle.numbers.specs.Numbers.{u16_of, u32_of}
use Rattle.numbers.specs.Bytes.{same}
use Rattle.reading.specs.Outcome.{Outcome, refused}
use Rattle.reading.specs.Record.{record_of}
use Rattle.reading.specs.declared.afinfo.FocusRecord.{FocusRecord}
use Rattle.reading.specs.Block.{find_of, is_kept, type_of, count_of, value_of}
use Rattle.numbers.specs.declared.io.ByteOrder.{ByteOrder}
use Rattle.reading.specs.declared.geometry.Size.{Size}
use Rattle.reading.specs.declared.geometry.Point.{Point}
use Rattle.reading.specs.declared.ifd.Entry.{Entry}
use Rattle.reading.specs.declared.nikon.CropHiSpeed.{CropHiSpeed}
use Rattle.reading.specs.declared.nikon.CropArea.{CropArea}
use Rattle.reading.specs.declared.nikon.CropArea.TheVariants as area

-- "cut at the first zero byte"
unfoldable pub up_to_zero : List ℕ → List ℕ
up_to_zero [] = []
up_to_zero (zero ∷ xs) = []
up_to_zero (suc x ∷ xs) = suc x ∷ up_to_zero xs

-- "spaces trimmed at both ends": at the front
unfoldable pub trim_start : List ℕ → List ℕ
trim_start [] = []
trim_start (x ∷ xs) = cond (eqb x 32) (trim_start xs) (x ∷ xs)

-- and at the end
unfoldable pub trim_end : List ℕ → List ℕ
trim_end s = reverse (trim_start (reverse s))

-- MANUAL
abbrev pub manual : List ℕ
manual = 77 ∷ 65 ∷ 78 ∷ 85 ∷ 65 ∷ 76 ∷ []

-- "none if then over 255 bytes, spaces trimmed at both ends, compared with MANUAL"
unfoldable pub is_manual : List ℕ → Bool
is_manual s = leb (length (up_to_zero s)) 255 && same (trim_end (trim_start (up_to_zero s))) manual

-- "0007, type 2"
unfoldable pub manual_focus_of : ByteOrder → List ℕ → Bool
manual_focus_of o s = eqb (type_of (find_of o s 7)) 2 && is_manual (value_of s (find_of o s 7))

-- number i of a value: of type 3 it is 16 bits wide, of type 4 it is 32
unfoldable pub number_at : ByteOrder → ℕ → List ℕ → ℕ → ℕ
number_at o t v i = cond (eqb t 3) (u16_of o (drop (2 * i) v)) (u32_of o (drop (4 * i) v))

-- "mode, original width and height, cropped width and height, left, top"
abbrev pub crop_of : ByteOrder → List ℕ → CropHiSpeed
crop_of o v =
    record {
      mode = number_at o 3 v 0;
      original = record { width = number_at o 3 v 1; height = number_at o 3 v 2 };
      cropped = record { width = number_at o 3 v 3; height = number_at o 3 v 4 };
      origin = record { x = number_at o 3 v 5; y = number_at o 3 v 6 };
    }

-- "001B, type 3, exactly seven"; "otherwise no crop"
unfoldable pub crop_hi_speed_of : ByteOrder → List ℕ → Option CropHiSpeed
crop_hi_speed_of o s =
    cond (eqb (type_of (find_of o s 27)) 3 && eqb (count_of (find_of o s 27)) 7)
    (Some (crop_of o (value_of s (find_of o s 27))))
    None

-- "type 3 or 4, exactly four values"
unfoldable pub is_rectangle : ℕ → ℕ → Bool
is_rectangle t n = eqb n 4 && (eqb t 3 || eqb t 4)

-- "both sides positive and the rectangle inside it", the raw size
unfoldable pub inside_raw : Size → Point → Size → CropArea
inside_raw raw at size =
    cond
    (ltb 0 size.width && ltb 0 size.height && leb (at.x + size.width) raw.width &&
    leb (at.y + size.height) raw.height)
    (area.Window size)
    area.Unusable

-- "left, top, width, height, the raw size is given"
unfoldable pub window_in : Option Size → ByteOrder → ℕ → List ℕ → CropArea
window_in None o t v = area.Unusable
window_in (Some raw) o t v =
    inside_raw raw
    (record { x = number_at o t v 0; y = number_at o t v 1 })
    (record { width = number_at o t v 2; height = number_at o t v 3 })

-- "absent without a kept entry; a window if ..; else unusable"
abbrev pub area_in : ByteOrder → List ℕ → Option Size → Option Entry → CropArea
area_in o s raw f =
    cond (is_kept f) (cond (is_rectangle (type_of f) (count_of f)) (window_in raw o (type_of f) (value_of s f)) area.Unusable) area.Absent

-- "0045"
unfoldable pub crop_area_of : ByteOrder → List ℕ → Option Size → CropArea
crop_area_of o s raw = area_in o s raw (find_of o s 69)

-- "first kept entry for tag 00B7 (hexadecimal) absent or not type 7": 2; "record value damaged": 4, as no value has a version
unfoldable pub af_info2_of : ByteOrder → List ℕ → Outcome FocusRecord
af_info2_of o s = cond (eqb (type_of (find_of o s 183)) 7) (record_of o (value_of s (find_of o s 183))) (refused 2)
