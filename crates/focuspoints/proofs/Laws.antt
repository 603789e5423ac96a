-- What follows of every photograph (specs/Laws.antt): by cases on the load, of which the lower crates say that its number is 1 to 6, or
-- that it has 39 points at the most, the primary among them. Assumes nothing.
use Prim.Native.Nat.{ℕ, ◌≤◌}
use mathlib.Core.Bool.{true, false}
use mathlib.Core.List.{List}
use mathlib.Core.Logic.{⊎_elim, ◌⊎◌, inl, inr}
use mathlib.Core.Path.{◌≡◌, refl}
use lib.Dec.{ltb}
use lib.ListN.{length}
use native.Mathlib.Omega.{arith}
use borrow.Author.Tests.{le-ltb}
use Rattle.laws.proofs.Tests.{by_bool}
use Rattle.reading.specs.Outcome.{Outcome, refused, accepted}
use Rattle.placing.specs.Focus.{focus_of}
use Rattle.placing.specs.Load.{Focus}
use Rattle.placing.specs.Sound.{Sound, SoundFocus}
use Rattle.placing.proofs.Sound.{focus_sound}
use Rattle.placing.proofs.Numbers.{Numbered, number, numbered_load}
use Rattle.focuspoints.specs.Buffer.{room_number, with_numbers}
use Rattle.focuspoints.specs.Photograph.{listing_length, photograph_number, photograph_buffer}
use Rattle.focuspoints.specs.Laws.{ListsTheLoad, NumbersReturned, RoomEnough, PhotographKeeps}
use Rattle.focuspoints.proofs.Listing.{whole_listing, whole_length}

pub lists_the_load : ListsTheLoad
lists_the_load f d = whole_listing f d

few : (o : Outcome Focus) → Numbered o → (room : ℕ) → (photograph_number o room ≤ 6) ⊎ (photograph_number o room ≡ 13)
unfolding photograph_number room_number
few (refused n) (number _ a b) room = inl b
few (accepted f) k room =
    ⊎_elim
    (λ (h : ltb room (listing_length f) ≡ true). inr (rw h))
    (λ (h : ltb room (listing_length f) ≡ false). inl (rw h (omega arith)))
    (by_bool (ltb room (listing_length f)))

pub numbers_returned : NumbersReturned
numbers_returned block raw picture model room = few (focus_of block raw picture model) (numbered_load block raw picture model) room

most : (f : Focus) → SoundFocus f → listing_length f ≤ 240
most f d = omega (arith, d.room, whole_length f)

enough : (o : Outcome Focus) → Numbered o → Sound o → (room : ℕ) → 240 ≤ room → photograph_number o room ≤ 6
unfolding photograph_number room_number
enough (refused n) (number _ a b) d room h = b
enough (accepted f) k d room h = rw (le-ltb room (listing_length f) (omega (arith, most f d))) (omega arith)

pub room_enough : RoomEnough
room_enough block raw picture model room h =
    enough (focus_of block raw picture model) (numbered_load block raw picture model) (focus_sound block raw picture model) room h

keeps : (o : Outcome Focus) (out : List ℕ) → (photograph_number o (length out) ≡ 0 → ⊥) → photograph_buffer o out ≡ out
unfolding photograph_number photograph_buffer room_number with_numbers
keeps (refused n) out z = refl
keeps (accepted f) out z =
    ⊎_elim
    (λ (h : ltb (length out) (listing_length f) ≡ true). rw h)
    (λ (h : ltb (length out) (listing_length f) ≡ false). absurd (z (rw h)))
    (by_bool (ltb (length out) (listing_length f)))

pub refused_keeps : PhotographKeeps
refused_keeps block raw picture model out z = keeps (focus_of block raw picture model) out z
