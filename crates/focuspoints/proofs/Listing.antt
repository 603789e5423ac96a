-- One photograph's answer is the definition's. A refused load returns its number. The numbers that the code writes of an accepted one are
-- those of the journal's listing: without edits every point is listed, where it was placed. Assumes nothing.
use Rattle.std.specs.Prelude.{Option, Result, Ok, Err}
use Prim.Native.Nat.{ℕ, ◌+◌, ◌*◌, ◌≤◌}
use mathlib.Core.List.{List, [], ◌∷◌}
use mathlib.Core.Path.{◌≡◌, refl, sym, ap, ap₂, ◌∙◌}
use lib.ListN.{length, take}
use lib.Seq.{length-take-le}
use native.Mathlib.Omega.{arith}
use Rattle.reading.specs.Outcome.{Outcome, refused, accepted}
use Rattle.reading.specs.Focus.{mode_number}
use Rattle.reading.specs.declared.geometry.Size.{Size}
use Rattle.placing.specs.declared.focus.FocusPoint.{FocusPoint}
use Rattle.placing.specs.declared.load.FocusPoints.{FocusPoints}
use Rattle.placing.specs.declared.load.Refusal.{Refusal}
use Rattle.placing.specs.Focus.{focus_of}
use Rattle.placing.specs.Load.{Focus, origin_number}
use Rattle.placing.specs.Laid.{laid_focus, refusal_number, focus_means, laid_out}
use Rattle.placing.specs.Sound.{SoundFocus}
use Rattle.placing.proofs.Sound.{focus_sound}
use Rattle.sheet.specs.Head.{head_of}
use Rattle.placing.proofs.Places.{take_places}
use Rattle.journal.specs.Journal.{frame_after, listed, numbers, carried}
use Rattle.placing.proofs.Means.{IsLaid, when_refused, when_accepted}
use Rattle.journal.proofs.Placed.{flat_numbers}
use Rattle.focuspoints.specs.Buffer.{room_number, with_numbers}
use Rattle.focuspoints.specs.Inside.{laid_numbers}
use Rattle.focuspoints.specs.Photograph.{listing_of, listing_length, photograph_number, photograph_buffer}

-- ---- a load without edits lists its points
pub all_listed : (f : Size) (ps : List FocusPoint) → listed f [] ps ≡ ps
unfolding listed carried
all_listed f [] = refl
all_listed f (p ∷ ps) = ap (λ (l : List FocusPoint). p ∷ l) (all_listed f ps)

-- its listing: frame, count, the primary's index, mode, origin, and the points
pub whole_listing : (f : Focus) → SoundFocus f → listing_of f ≡
    f.frame.width ∷
    f.frame.height ∷
    length f.points ∷
    f.primary ∷ mode_number f.mode ∷ origin_number f.origin ∷ numbers f.points
unfolding listing_of frame_after
whole_listing f d =
    rw (
      all_listed f.frame f.points,
      all_listed f.frame (take f.primary f.points),
      length-take-le f.primary f.points (omega (arith, d.primary_in)),
    )

pub whole_length : (f : Focus) → listing_length f ≡ 6 + 6 * length f.points
unfolding listing_length
whole_length f = rw (all_listed f.frame f.points)

-- ---- the code's values
laid_listing : (f : Focus) → SoundFocus f → laid_numbers (laid_focus f) ≡ listing_of f
unfolding laid_numbers laid_focus head_of
laid_listing f d = rw (take_places f.points, flat_numbers f.points) (sym (whole_listing f d))

refused_so : (o : Outcome Focus) (n : ℕ) → o ≡ refused n → (l : List ℕ) → (n ≡ photograph_number o (length l)) × (l ≡ photograph_buffer o l)
unfolding photograph_number photograph_buffer
refused_so o n e l = rw e (refl, refl)

few_so : (f : Focus) (v : FocusPoints) → SoundFocus f → v ≡ laid_focus f → (v.count ≤ 39) × (v.primary ≤ 39)
unfolding laid_focus
few_so f v d e = rw e (d.room, omega (arith, d.room, d.primary_in))

placed_so : (f : Focus) (v : FocusPoints) → SoundFocus f → v ≡ laid_focus f → (n : ℕ) (l l' : List ℕ)
    → (n ≡ room_number (6 + 6 * v.count) (length l)) × (l' ≡ with_numbers (6 + 6 * v.count) (laid_numbers v) l)
    → (n ≡ photograph_number (accepted f) (length l)) × (l' ≡ photograph_buffer (accepted f) l)
unfolding laid_focus photograph_number photograph_buffer
placed_so f v d e n l l' p =
    let q = rw (e, laid_listing f d) at p in
    rw (whole_length f) q

-- ---- a photograph
module _ (block : List ℕ) (raw picture : Option Size) (model : List ℕ) (raw₁ picture₁ : Option Size) (er : raw₁ ≡ raw) (ep : picture₁ ≡ picture)
    (r : Result FocusPoints Refusal) (e : focus_means r ≡ laid_out (focus_of block raw₁ picture₁ model)) (l : List ℕ) where
  abbrev load : Outcome Focus
  load = focus_of block raw picture model

  laid_so : focus_means r ≡ laid_out load
  laid_so = e ∙ ap₂ (λ (x p : Option Size). laid_out (focus_of block x p model)) er ep

  pub photograph_no : (why : Refusal) (n : ℕ) → n ≡ refusal_number why → r ≡ Err why
      → (n ≡ photograph_number (focus_of block raw picture model) (length l)) × (l ≡ photograph_buffer (focus_of block raw picture model) l)
  photograph_no why n en a = rw en (refused_so load (refusal_number why) (when_refused load why (rw a at laid_so)) l)

  module _ (v : FocusPoints) (a : r ≡ Ok v) where
    laid : IsLaid load v
    laid = when_accepted load v (rw a at laid_so)

    sound : SoundFocus laid.focus
    sound = rw laid.is at (focus_sound block raw picture model)

    pub photograph_few : (v.count ≤ 39) × (v.primary ≤ 39)
    photograph_few = few_so laid.focus v sound laid.laid

    pub photograph_yes : (n : ℕ) (l' : List ℕ)
        → (n ≡ room_number (6 + 6 * v.count) (length l)) × (l' ≡ with_numbers (6 + 6 * v.count) (laid_numbers v) l)
        → (n ≡ photograph_number (focus_of block raw picture model) (length l)) × (l' ≡ photograph_buffer (focus_of block raw picture model) l)
    photograph_yes n l' p = rw laid.is (placed_so laid.focus v sound laid.laid n l l' p)
