-- 01, "After the sheet", with 02's code 09: the call that the bytes of a line spell. The first byte is the code, the last one the check. "Numbers
-- big-endian."
use Rattle.std.specs.Prelude.{ℕ, ◌+◌, ◌-◌, ◌/◌, ◌%◌, Bool, ◌&&◌, ◌||◌, cond, List, [], leb, eqb, length, get_or, take, drop, Option, Some, None}
use Rattle.numbers.specs.Numbers.{u32_of}
use Rattle.numbers.specs.declared.io.ByteOrder.TheVariants.{Big}
use Rattle.reading.specs.Outcome.{Outcome, refused, accepted}
use Rattle.reading.specs.declared.geometry.Size.{Size}
use Rattle.hex_lines.specs.Hex.{checks}
use Rattle.calls.specs.declared.Call.{Call}
use Rattle.calls.specs.declared.Call.TheVariants.{Load, Cut, Back, ListPoints, Fit, Contents, Orient}

-- ---- a call as a line's bytes spell it. What a load and contents are given besides, model and block, are parts of the bytes: see
-- model_part, block_part and contents_part
pub data LineCall : Type 0 where
  -- the raw size and the picture size
  line_load : Option Size → Option Size → LineCall
  -- left, top, width and height
  line_cut : ℕ → ℕ → ℕ → ℕ → LineCall
  line_back : LineCall
  line_list : LineCall
  -- the box
  line_fit : Size → LineCall
  line_contents : LineCall
  -- an orientation's number, which may be outside 1 to 8
  line_orient : ℕ → LineCall

-- what the code's answer means in 01's numbers: 14, "call line malformed", or the call
abbrev pub call_means : Option Call → Outcome LineCall
call_means None = refused 14
call_means (Some (Load raw picture)) = accepted (line_load raw picture)
call_means (Some (Cut r)) = accepted (line_cut r.left r.top r.width r.height)
call_means (Some Back) = accepted line_back
call_means (Some ListPoints) = accepted line_list
call_means (Some (Fit box)) = accepted (line_fit box)
call_means (Some Contents) = accepted line_contents
call_means (Some (Orient number)) = accepted (line_orient number)

-- ---- numbers
-- the 32-bit number at a place
abbrev pub u32_at : List ℕ → ℕ → ℕ
u32_at b at = u32_of Big (drop at b)

-- two of them: a width and a height
unfoldable pub sides_at : List ℕ → ℕ → Size
sides_at b at = record { width = u32_at b at; height = u32_at b (at + 4) }

-- ---- "01 load (flags: 1 raw, 2 picture; four 32-bit sides, 0 if missing; model length byte; model; block)"
abbrev pub flags : List ℕ → ℕ
flags b = get_or b 1 0

abbrev pub has_raw : List ℕ → Bool
has_raw b = eqb (flags b % 2) 1

abbrev pub has_picture : List ℕ → Bool
has_picture b = eqb (flags b / 2 % 2) 1

abbrev pub model_length : List ℕ → ℕ
model_length b = get_or b 18 0

unfoldable pub model_part : List ℕ → List ℕ
model_part b = take (model_length b) (drop 19 b)

-- what is left before the check
unfoldable pub block_part : List ℕ → List ℕ
block_part b = take (length b - (20 + model_length b)) (drop (19 + model_length b) b)

-- not "a missing size whose sides aren't 0"
unfoldable pub sides_agree : Bool → Size → Bool
sides_agree given s = given || (eqb s.width 0 && eqb s.height 0)

unfoldable pub optional : Bool → Size → Option Size
optional given s = cond given (Some s) None

-- not "a wrong length, a flag byte above 3, or a missing size whose sides aren't 0"
unfoldable pub well_formed_load : List ℕ → Bool
well_formed_load b =
    leb (20 + model_length b) (length b) &&
    (leb (flags b) 3 && (sides_agree (has_raw b) (sides_at b 2) && sides_agree (has_picture b) (sides_at b 10)))

unfoldable pub load_call : List ℕ → Outcome LineCall
load_call b =
    cond (well_formed_load b)
    (accepted (line_load (optional (has_raw b) (sides_at b 2)) (optional (has_picture b) (sides_at b 10))))
    (refused 14)

-- ---- a call of a fixed length, the code and the check included; "a wrong length": 14
abbrev pub of_length : ℕ → List ℕ → Outcome LineCall → Outcome LineCall
of_length n b call = cond (eqb (length b) n) call (refused 14)

-- "02 cut (four 32-bit)"
unfoldable pub cut_call : List ℕ → Outcome LineCall
cut_call b = of_length 18 b (accepted (line_cut (u32_at b 1) (u32_at b 5) (u32_at b 9) (u32_at b 13)))

-- "07 fit (two 32-bit)"
unfoldable pub fit_call : List ℕ → Outcome LineCall
fit_call b = of_length 10 b (accepted (line_fit (sides_at b 1)))

-- "08 contents (block)": a code and a check at the least
unfoldable pub contents_call : List ℕ → Outcome LineCall
contents_call b = cond (leb 2 (length b)) (accepted line_contents) (refused 14)

unfoldable pub contents_part : List ℕ → List ℕ
contents_part b = take (length b - 2) (drop 1 b)

-- 02: "code 09 carries the number in one byte"
unfoldable pub orient_call : List ℕ → Outcome LineCall
orient_call b = of_length 3 b (accepted (line_orient (get_or b 1 0)))

-- "Codes: 01 load .., 02 cut .., 05 back, 06 list, 07 fit .., 08 contents", and 02's 09; "an unknown code": 14. 02: "Call codes 03 and
-- 04 become malformed"
unfoldable pub by_code : ℕ → List ℕ → Outcome LineCall
by_code code b =
    cond (eqb code 1) (load_call b)
    (cond (eqb code 2) (cut_call b)
    (cond (eqb code 5) (of_length 2 b (accepted line_back))
    (cond (eqb code 6) (of_length 2 b (accepted line_list))
    (cond (eqb code 7) (fit_call b)
    (cond (eqb code 8) (contents_call b)
    (cond (eqb code 9) (orient_call b) (refused 14)))))))

-- the call of a line's bytes; "a wrong check": 14, whatever else they say
unfoldable pub call_of : List ℕ → Outcome LineCall
call_of b = cond (checks b) (by_code (get_or b 0 0) b) (refused 14)

-- ---- the model and the block that a call is given, of the bytes that spell it; none where it takes none
abbrev pub model_given : LineCall → List ℕ → List ℕ
model_given (line_load raw picture) b = model_part b
model_given (line_cut left top width height) b = []
model_given line_back b = []
model_given line_list b = []
model_given (line_fit size) b = []
model_given line_contents b = []
model_given (line_orient number) b = []

abbrev pub block_given : LineCall → List ℕ → List ℕ
block_given (line_load raw picture) b = block_part b
block_given (line_cut left top width height) b = []
block_given line_back b = []
block_given line_list b = []
block_given (line_fit size) b = []
block_given line_contents b = contents_part b
block_given (line_orient number) b = []
