-- Every load keeps the promise of Sound. The idea: a position that is placed fits its frame, named points keep the promise, and the
-- numbers 1 to 4 only refuse. Assumes nothing.
use Rattle.std.specs.Prelude.{Option}
use Rattle.reading.specs.declared.geometry.Size.{Size}
use Rattle.reading.specs.declared.nikon.CropHiSpeed.{CropHiSpeed}
use Prim.Native.Nat.{ℕ}
use mathlib.Core.List.{List}
use native.Mathlib.Omega.{arith}
use Rattle.reading.specs.Outcome.{Outcome, refused, accepted, and_then}
use Rattle.reading.specs.declared.focus.FocusAreaMode.{FocusAreaMode}
use Rattle.placing.specs.Load.{Focus, alone}
use Rattle.placing.specs.Named.{named_outcome}
use Rattle.placing.specs.Sound.{Sound}
use Rattle.reading.specs.Note.{values_of}
use Rattle.reading.specs.declared.nikon.CropArea.{CropArea}
use Rattle.reading.specs.declared.afinfo.FocusRecord.{FocusRecord}
use Rattle.placing.specs.Recorded.{position_of}
use Rattle.placing.specs.declared.focus.Framed.{Framed}
use Rattle.placing.specs.Focus.{point_of, records_position, placed_of, focus_of, LoadSound}
use Rattle.laws.proofs.Tests.{either}
use Rattle.placing.proofs.RecordedFits.{Fits, position_fits}
use Rattle.placing.proofs.NamedSound.{named_sound}

-- one point that fits is a sound load
pub alone_sound : (m : FocusAreaMode) (q : Outcome Framed) → Fits q → Sound (and_then q (λ x. alone x.frame x.point m))
unfolding Fits
alone_sound m (refused n) h = tt
alone_sound m (accepted q) h =
    record { count_some = omega arith; room = omega arith; primary_in = omega arith; fit = (h, tt) }

-- a record that is placed
placed_sound : (r : FocusRecord) (crop : Option CropHiSpeed) (area : CropArea) (picture : Option Size) (model : List ℕ) →
    Sound (placed_of r crop area picture model)
unfolding placed_of
placed_sound r crop area picture model =
    either Sound (records_position r)
    (and_then (position_of (point_of r) r.frame crop area picture) (λ q. alone q.frame q.point r.area_mode))
    (named_outcome r.named model crop picture r.area_mode)
    (alone_sound r.area_mode (position_of (point_of r) r.frame crop area picture) (position_fits (point_of r) r.frame crop area picture))
    (named_sound r.named model crop picture r.area_mode)

-- what follows an outcome is sound if it is sound for every accepted value
then_sound : {A : Type 0} (q : Outcome A) (g : A → Outcome Focus) → ((a : A) → Sound (g a)) → Sound (and_then q g)
then_sound (refused n) g h = tt
then_sound (accepted a) g h = h a

pub focus_sound : LoadSound
unfolding focus_of
focus_sound s raw picture model =
    then_sound (values_of s raw) (λ v. placed_of v.recorded v.crop v.area picture model)
    (λ v. placed_sound v.recorded v.crop v.area picture model)
