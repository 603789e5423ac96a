-- That `lines_of` splits a script as 01 says: lines with a feed after each are these lines, the last feed may be missing, nothing after a
-- last feed is no line; and of any script: no line has a feed in it, and the lines with a feed after each are the script, but for a
-- missing last feed. proofs/Laws.antt proves each.
use Rattle.std.specs.Prelude.{ℕ, ◌<◌, ◌⊎◌, ◌≡◌, length}
use mathlib.Core.List.{List, [], ◌∷◌, ◌++◌, map, flatten}
use Rattle.script.specs.Script.{lines_of}

-- no character of a line is a line feed, and so of every line
unfoldable pub NoFeed : List ℕ → Type 0
NoFeed [] = Unit {0}
NoFeed (c ∷ line) = (c ≡ 10 → ⊥) × NoFeed line

unfoldable pub NoFeeds : List (List ℕ) → Type 0
NoFeeds [] = Unit {0}
NoFeeds (line ∷ lines) = NoFeed line × NoFeeds lines

-- the script of lines, a feed after each
unfoldable pub fed : List (List ℕ) → List ℕ
fed lines = flatten (map (λ line. line ++ (10 ∷ [])) lines)

abbrev pub EmptyScript : Type 0
EmptyScript = lines_of [] ≡ []

abbrev pub FedLines : Type 0
FedLines = (lines : List (List ℕ)) → NoFeeds lines → lines_of (fed lines) ≡ lines

-- "The last feed may be missing"
abbrev pub LastUnfed : Type 0
LastUnfed =
    (lines : List (List ℕ)) (last : List ℕ) → NoFeeds lines → NoFeed last → 0 < length last
    → lines_of (fed lines ++ last) ≡ lines ++ (last ∷ [])

abbrev pub LinesUnfed : Type 0
LinesUnfed = (script : List ℕ) → NoFeeds (lines_of script)

abbrev pub LinesAreScript : Type 0
LinesAreScript = (script : List ℕ) → (fed (lines_of script) ≡ script) ⊎ (fed (lines_of script) ≡ script ++ (10 ∷ []))
