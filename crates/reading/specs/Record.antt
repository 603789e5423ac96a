-- 01, "Record": the four layouts, the seven versions, and what a record says.
use Rattle.std.specs.Prelude.{ℕ, ◌+◌, ◌*◌, cond, ◌&&◌, ◌||◌, List, [], ◌∷◌, length, get_or, drop, take, leb, eqb, Option, Some, None, Result, Ok, Err}
use Rattle.reading.specs.Outcome.{Outcome, refused, accepted}
use Rattle.numbers.specs.Numbers.{shorts_of}
use Rattle.numbers.specs.Bytes.{same}
use Rattle.numbers.specs.declared.io.ByteOrder.{ByteOrder}
use Rattle.reading.specs.declared.geometry.Size.{Size}
use Rattle.reading.specs.declared.focus.InFocus.{InFocus}
use Rattle.reading.specs.declared.focus.InFocus.TheVariants.{Unrecorded, No, Yes}
use Rattle.reading.specs.declared.focus.FocusAreaMode.{FocusAreaMode}
use Rattle.reading.specs.declared.focus.FocusAreaMode.TheVariants.{NoMode, Single, Dynamic, Auto, Tracking}
use Rattle.reading.specs.declared.afinfo.Layout.{Layout}
use Rattle.reading.specs.declared.afinfo.Version.{Version}
use Rattle.reading.specs.declared.afinfo.NamedPoints.{NamedPoints}
use Rattle.reading.specs.declared.afinfo.FocusRecord.{FocusRecord}
use Rattle.reading.specs.declared.afinfo.RecordRefusal.{RecordRefusal}
use Rattle.reading.specs.declared.afinfo.RecordRefusal.TheVariants.{NoRecord, BadRecord}

-- "minimum length, then places of frame, centre, area, in-focus byte"; and of the names, which only the first has
abbrev pub layout : ℕ → ℕ → ℕ → ℕ → Option ℕ → Option ℕ → Layout
layout m f c a i n = record { min_len = m; frame = f; center = c; area = a; in_focus = i; named = n }

abbrev pub layouts : List Layout
layouts =
    layout 30 16 20 24 (Some 28) (Some 6) ∷
    layout 84 70 74 78 (Some 82) None ∷
    layout 60 42 46 50 None None ∷
    layout 80 62 66 70 (Some 74) None ∷
    []

abbrev pub no_layout : Layout
no_layout = layout 0 0 0 0 None None

-- "Version text": four digits, of which the first and the third are 0; and which of the layouts it has
abbrev pub version : ℕ → ℕ → ℕ → Version
version b d l = record { text = 48 ∷ (48 + b) ∷ 48 ∷ (48 + d) ∷ []; layout = l }

-- 0100; 0101; 0300, 0301; 0400, 0401, 0402
abbrev pub versions : List Version
versions =
    version 1 0 0 ∷ version 1 1 1 ∷ version 3 0 2 ∷ version 3 1 2 ∷ version 4 0 3 ∷ version 4 1 3 ∷ version 4 2 3 ∷ []

-- the layout of the first version of a list whose text the record starts with
unfoldable pub layout_among : List Version → List ℕ → Option Layout
layout_among [] v = None
layout_among (x ∷ xs) v = cond (same (take 4 v) x.text) (Some (get_or layouts x.layout no_layout)) (layout_among xs v)

unfoldable pub layout_of : List ℕ → Option Layout
layout_of v = layout_among versions v

-- "Bytes 4, 5 give area mode: (0,0) or (any,193) Single; (0,5) Dynamic; (0,8) or (any,197) Auto; (0,9), (1,207) or
-- (2,207) Tracking; else none."
unfoldable pub area_mode_of : ℕ → ℕ → FocusAreaMode
area_mode_of d c =
    cond (eqb c 193 || (eqb c 0 && eqb d 0)) Single
    (cond (eqb c 5 && eqb d 0) Dynamic
    (cond (eqb c 197 || (eqb c 8 && eqb d 0)) Auto
    (cond ((eqb c 9 && eqb d 0) || (eqb c 207 && (eqb d 1 || eqb d 2))) Tracking
    NoMode)))

-- "In-focus 0 is no, 1 yes, others unrecorded"
unfoldable pub by_byte : ℕ → InFocus
by_byte b = cond (eqb b 0) No (cond (eqb b 1) Yes Unrecorded)

abbrev pub in_focus_of : Option ℕ → List ℕ → InFocus
in_focus_of (Some p) v = by_byte (get_or v p 0)
in_focus_of None v = Unrecorded

-- a mask of seven bytes as one number, "least significant first"
unfoldable pub mask_of : List ℕ → ℕ
mask_of s =
    get_or s 0 0 + 256 * (get_or s 1 0 + 256 * (get_or s 2 0 + 256 * (get_or s 3 0 + 256 *
    (get_or s 4 0 + 256 * (get_or s 5 0 + 256 * get_or s 6 0)))))

-- "byte 6 layout code, 7 primary, 8 to 14 mask"
abbrev pub names_in : List ℕ → NamedPoints
names_in s = record { layout_code = get_or s 0 0; primary = get_or s 1 0; mask = mask_of (drop 2 s) }

abbrev pub named_of : Option ℕ → List ℕ → Option NamedPoints
named_of (Some p) v = Some (names_in (drop p v))
named_of None v = None

-- "each pair is read from the part of the value that starts at its place"
unfoldable pub size_at : ByteOrder → List ℕ → ℕ → Size
size_at o v at = record { width = (shorts_of o (drop at v)).first; height = (shorts_of o (drop at v)).second }

unfoldable pub record_in : ByteOrder → List ℕ → Layout → FocusRecord
record_in o v l =
    record {
      frame = size_at o v l.frame;
      center = record { x = (size_at o v l.center).width; y = (size_at o v l.center).height };
      area = size_at o v l.area;
      in_focus = in_focus_of l.in_focus v;
      area_mode = area_mode_of (get_or v 4 0) (get_or v 5 0);
      named = named_of l.named v;
    }

-- "of unknown version, or too short": 4
abbrev pub by_layout : ByteOrder → List ℕ → Option Layout → Outcome FocusRecord
by_layout o v (Some l) = cond (leb l.min_len (length v)) (accepted (record_in o v l)) (refused 4)
by_layout o v None = refused 4

unfoldable pub record_of : ByteOrder → List ℕ → Outcome FocusRecord
record_of o v = by_layout o v (layout_of v)

-- 01's number for each way in which a record is refused
abbrev pub record_refusal_number : RecordRefusal → ℕ
record_refusal_number NoRecord = 2
record_refusal_number BadRecord = 4

abbrev pub record_means : Result FocusRecord RecordRefusal → Outcome FocusRecord
record_means (Err why) = refused (record_refusal_number why)
record_means (Ok r) = accepted r
