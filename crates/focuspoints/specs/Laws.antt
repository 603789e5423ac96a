-- What follows of every photograph, in a caller's words. proofs/Laws.antt proves each.
use Rattle.std.specs.Prelude.{Option}
use Rattle.reading.specs.declared.geometry.Size.{Size}
use Rattle.std.specs.Prelude.{ℕ, ◌≤◌, List, ◌∷◌, ◌⊎◌, ◌≡◌, length}
use Rattle.reading.specs.Focus.{mode_number}
use Rattle.placing.specs.Focus.{focus_of}
use Rattle.placing.specs.Load.{Focus, origin_number}
use Rattle.placing.specs.Sound.{SoundFocus}
use Rattle.journal.specs.Journal.{numbers}
use Rattle.focuspoints.specs.Photograph.{listing_of, photograph_number, photograph_buffer}

-- without edits the listing is the load itself: its frame, its points in order, its primary's index, mode and origin
abbrev pub ListsTheLoad : Type 0
ListsTheLoad =
    (f : Focus) → SoundFocus f →
    listing_of f ≡
    f.frame.width ∷
    f.frame.height ∷
    length f.points ∷
    f.primary ∷ mode_number f.mode ∷ origin_number f.origin ∷ numbers f.points

-- 0, 1 to 6, or 13: no other number is returned
abbrev pub NumbersReturned : Type 0
NumbersReturned =
    (block : List ℕ) (raw picture : Option Size) (model : List ℕ) (room : ℕ) →
    (photograph_number (focus_of block raw picture model) room ≤ 6)
    ⊎ (photograph_number (focus_of block raw picture model) room ≡ 13)

-- 240 places are enough for every photograph
abbrev pub RoomEnough : Type 0
RoomEnough =
    (block : List ℕ) (raw picture : Option Size) (model : List ℕ) (room : ℕ) → 240 ≤ room →
    photograph_number (focus_of block raw picture model) room ≤ 6

-- a number that is not 0 keeps the buffer
abbrev pub PhotographKeeps : Type 0
PhotographKeeps =
    (block : List ℕ) (raw picture : Option Size) (model out : List ℕ) →
    (photograph_number (focus_of block raw picture model) (length out) ≡ 0 → ⊥) →
    photograph_buffer (focus_of block raw picture model) out ≡ out
