-- 01, "After the sheet": the lines that `focusdesk` prints. Each ends with a line feed, 10; 32 is a space.
use Rattle.std.specs.Prelude.{ℕ, zero, suc, ◌+◌, ◌*◌, List, [], ◌∷◌, ◌++◌, get_or}
use Rattle.text.specs.Number.{digits_of, pair}

abbrev pub line_feed : List ℕ
line_feed = 10 ∷ []

-- the words of the lines, with the spaces around them
abbrev pub space : List ℕ
space = 32 ∷ []

abbrev pub no_word : List ℕ
no_word = 110 ∷ 111 ∷ 32 ∷ []

abbrev pub tags_word : List ℕ
tags_word = 116 ∷ 97 ∷ 103 ∷ 115 ∷ 32 ∷ []

abbrev pub frame_word : List ℕ
frame_word = 102 ∷ 114 ∷ 97 ∷ 109 ∷ 101 ∷ 32 ∷ []

abbrev pub points_word : List ℕ
points_word = 32 ∷ 112 ∷ 111 ∷ 105 ∷ 110 ∷ 116 ∷ 115 ∷ 32 ∷ []

abbrev pub primary_word : List ℕ
primary_word = 32 ∷ 112 ∷ 114 ∷ 105 ∷ 109 ∷ 97 ∷ 114 ∷ 121 ∷ 32 ∷ []

abbrev pub mode_word : List ℕ
mode_word = 32 ∷ 109 ∷ 111 ∷ 100 ∷ 101 ∷ 32 ∷ []

abbrev pub origin_word : List ℕ
origin_word = 32 ∷ 111 ∷ 114 ∷ 105 ∷ 103 ∷ 105 ∷ 110 ∷ 32 ∷ []

-- a space and a number
abbrev pub spaced : ℕ → List ℕ
spaced n = pair space n

-- "It prints `ok`"
abbrev pub ok_text : List ℕ
ok_text = 111 ∷ 107 ∷ 10 ∷ []

-- "`no N`"
unfoldable pub no_text : ℕ → List ℕ
no_text n = pair no_word n ++ line_feed

-- the first n numbers of a list, each after a space
unfoldable pub spaced_all : List ℕ → ℕ → List ℕ
spaced_all ws zero = []
spaced_all ws (suc n) = spaced_all ws n ++ spaced (get_or ws n 0)

-- "`tags` with count and tags in decimal (unused places not printed)"
unfoldable pub tags_text : ℕ → List ℕ → List ℕ
tags_text count tags = pair tags_word count ++ spaced_all tags count ++ line_feed

-- "for list and fit a head line": `frame W H points N primary P mode M origin O`, of the six numbers that a listing gives
unfoldable pub head_text : List ℕ → List ℕ
head_text given =
    pair frame_word (get_or given 0 0)
    ++ spaced (get_or given 1 0)
    ++ pair points_word (get_or given 2 0)
    ++ pair primary_word (get_or given 3 0)
    ++ pair mode_word (get_or given 4 0)
    ++ pair origin_word (get_or given 5 0)
    ++ line_feed

-- "one line a point with its six numbers": point i of a buffer
unfoldable pub point_text : List ℕ → ℕ → List ℕ
point_text ws i =
    digits_of (get_or ws (i * 6) 0)
    ++ spaced (get_or ws (i * 6 + 1) 0)
    ++ spaced (get_or ws (i * 6 + 2) 0)
    ++ spaced (get_or ws (i * 6 + 3) 0)
    ++ spaced (get_or ws (i * 6 + 4) 0)
    ++ spaced (get_or ws (i * 6 + 5) 0)
    ++ line_feed

-- the lines of the first n points
unfoldable pub points_text : List ℕ → ℕ → List ℕ
points_text ws zero = []
points_text ws (suc n) = points_text ws n ++ point_text ws n
