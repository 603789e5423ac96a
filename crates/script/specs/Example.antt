-- 01's whole case, byte for byte, with 02's line: the four lines of the script, and the five that are printed. proofs/Example.antt
-- computes that the one is answered by the other.
use Rattle.std.specs.Prelude.{ℕ, ◌≡◌}
use mathlib.Core.List.{List, [], ◌∷◌, flatten}
use Rattle.script.specs.Script.{script_text}

-- "0100000000000000000000000000000000000A4E .."
abbrev load_line : List ℕ
load_line =
    48 ∷ 49 ∷ 48 ∷ 48 ∷ 48 ∷ 48 ∷ 48 ∷ 48 ∷ 48 ∷ 48 ∷ 48 ∷ 48 ∷ 48 ∷ 48 ∷ 48 ∷ 48 ∷ 48 ∷ 48 ∷ 48 ∷ 48 ∷
    48 ∷ 48 ∷ 48 ∷ 48 ∷ 48 ∷ 48 ∷ 48 ∷ 48 ∷ 48 ∷ 48 ∷ 48 ∷ 48 ∷ 48 ∷ 48 ∷ 48 ∷ 48 ∷ 48 ∷ 65 ∷ 52 ∷ 69 ∷
    52 ∷ 57 ∷ 52 ∷ 66 ∷ 52 ∷ 70 ∷ 52 ∷ 69 ∷ 50 ∷ 48 ∷ 52 ∷ 52 ∷ 51 ∷ 54 ∷ 51 ∷ 48 ∷ 51 ∷ 48 ∷ 52 ∷ 68 ∷
    52 ∷ 68 ∷ 48 ∷ 48 ∷ 50 ∷ 65 ∷ 48 ∷ 48 ∷ 48 ∷ 48 ∷ 48 ∷ 48 ∷ 48 ∷ 56 ∷ 48 ∷ 48 ∷ 48 ∷ 49 ∷ 48 ∷ 48 ∷
    66 ∷ 55 ∷ 48 ∷ 48 ∷ 48 ∷ 55 ∷ 48 ∷ 48 ∷ 48 ∷ 48 ∷ 48 ∷ 48 ∷ 49 ∷ 69 ∷ 48 ∷ 48 ∷ 48 ∷ 48 ∷ 48 ∷ 48 ∷
    49 ∷ 54 ∷ 51 ∷ 48 ∷ 51 ∷ 49 ∷ 51 ∷ 48 ∷ 51 ∷ 48 ∷ 48 ∷ 48 ∷ 48 ∷ 48 ∷ 48 ∷ 51 ∷ 48 ∷ 49 ∷ 48 ∷ 49 ∷
    56 ∷ 48 ∷ 48 ∷ 48 ∷ 48 ∷ 48 ∷ 48 ∷ 48 ∷ 48 ∷ 48 ∷ 48 ∷ 48 ∷ 48 ∷ 48 ∷ 48 ∷ 48 ∷ 48 ∷ 48 ∷ 48 ∷ 48 ∷
    48 ∷ 48 ∷ 48 ∷ 48 ∷ 48 ∷ 48 ∷ 48 ∷ 48 ∷ 48 ∷ 48 ∷ 48 ∷ 48 ∷ 48 ∷ 48 ∷ 48 ∷ 48 ∷ 48 ∷ 48 ∷ 48 ∷ 48 ∷
    48 ∷ 48 ∷ 55 ∷ 55 ∷ 10 ∷ []

-- 02: "In 01's whole case the line 03FD becomes 0906F1, and the output is the same."
abbrev orient_line : List ℕ
orient_line =
    48 ∷ 57 ∷ 48 ∷ 54 ∷ 70 ∷ 49 ∷ 10 ∷ []

-- 020000076C00000B5400000190000001900A
abbrev cut_line : List ℕ
cut_line =
    48 ∷ 50 ∷ 48 ∷ 48 ∷ 48 ∷ 48 ∷ 48 ∷ 55 ∷ 54 ∷ 67 ∷ 48 ∷ 48 ∷ 48 ∷ 48 ∷ 48 ∷ 66 ∷ 53 ∷ 52 ∷ 48 ∷ 48 ∷
    48 ∷ 48 ∷ 48 ∷ 49 ∷ 57 ∷ 48 ∷ 48 ∷ 48 ∷ 48 ∷ 48 ∷ 48 ∷ 49 ∷ 57 ∷ 48 ∷ 48 ∷ 65 ∷ 10 ∷ []

-- 06FA
abbrev list_line : List ℕ
list_line =
    48 ∷ 54 ∷ 70 ∷ 65 ∷ 10 ∷ []

abbrev pub whole_script : List ℕ
whole_script = flatten (load_line ∷ orient_line ∷ cut_line ∷ list_line ∷ [])

-- three times "ok", then "frame 400 400 points 1 primary 0 mode 1 origin 2" and "1 109 108 164 164 0"
abbrev ok_line : List ℕ
ok_line = 111 ∷ 107 ∷ 10 ∷ []

abbrev head_line : List ℕ
head_line =
    102 ∷ 114 ∷ 97 ∷ 109 ∷ 101 ∷ 32 ∷ 52 ∷ 48 ∷ 48 ∷ 32 ∷ 52 ∷ 48 ∷ 48 ∷ 32 ∷ 112 ∷ 111 ∷ 105 ∷ 110 ∷ 116 ∷ 115 ∷
    32 ∷ 49 ∷ 32 ∷ 112 ∷ 114 ∷ 105 ∷ 109 ∷ 97 ∷ 114 ∷ 121 ∷ 32 ∷ 48 ∷ 32 ∷ 109 ∷ 111 ∷ 100 ∷ 101 ∷ 32 ∷ 49 ∷ 32 ∷
    111 ∷ 114 ∷ 105 ∷ 103 ∷ 105 ∷ 110 ∷ 32 ∷ 50 ∷ 10 ∷ []

abbrev point_line : List ℕ
point_line =
    49 ∷ 32 ∷ 49 ∷ 48 ∷ 57 ∷ 32 ∷ 49 ∷ 48 ∷ 56 ∷ 32 ∷ 49 ∷ 54 ∷ 52 ∷ 32 ∷ 49 ∷ 54 ∷ 52 ∷ 32 ∷ 48 ∷ 10 ∷ []

abbrev pub whole_text : List ℕ
whole_text = flatten (ok_line ∷ ok_line ∷ ok_line ∷ head_line ∷ point_line ∷ [])

abbrev pub WholeCaseText : Type 0
WholeCaseText = script_text whole_script ≡ whole_text
