-- "Load can give 1 to 6": every refusal in the definition of one load has such a number, by the cases of its tests. Assumes nothing.
use Rattle.std.specs.Prelude.{Option, Some, None}
use Prim.Native.Nat.{ℕ, ◌≤◌, min}
use mathlib.Core.Bool.{Bool, true, false, cond, ◌&&◌}
use mathlib.Core.List.{List}
use lib.Dec.{leb, eqb}
use lib.ListN.{length, take}
use native.Mathlib.Omega.{arith}
use Rattle.reading.specs.Block.{block_of, by_mark, in_order, by_directory, directory_of, little_mark, big_mark, find_of, type_of, value_of}
use Rattle.numbers.specs.Bytes.{same}
use Rattle.reading.specs.Outcome.{Outcome, refused, accepted, and_then, refused_too}
use Rattle.reading.specs.Values.{af_info2_of, manual_focus_of}
use Rattle.reading.specs.Note.{values_in, values_of}
use Rattle.reading.specs.Record.{record_of, by_layout, layout_of, record_in}
use Rattle.reading.specs.declared.geometry.Size.{Size}
use Rattle.reading.specs.declared.focus.FocusAreaMode.{FocusAreaMode}
use Rattle.reading.specs.declared.ifd.Ifd.{Ifd}
use Rattle.numbers.specs.declared.io.ByteOrder.{ByteOrder}
use Rattle.numbers.specs.declared.io.ByteOrder.TheVariants.{Little, Big}
use Rattle.reading.specs.declared.nikon.CropArea.{CropArea}
use Rattle.reading.specs.declared.nikon.CropArea.TheVariants.{Absent, Unusable, Window}
use Rattle.reading.specs.declared.nikon.CropHiSpeed.{CropHiSpeed}
use Rattle.reading.specs.declared.afinfo.FocusRecord.{FocusRecord}
use Rattle.reading.specs.declared.afinfo.NamedPoints.{NamedPoints}
use Rattle.reading.specs.declared.afinfo.Layout.{Layout}
use Rattle.placing.specs.declared.focus.FocusPoint.{FocusPoint}
use Rattle.placing.specs.Fit.{has_zero_side, point_fits, same_size}
use Rattle.placing.specs.Scale.{scaled_point}
use Rattle.placing.specs.Focus.{point_of, records_position, placed_of, focus_of, LoadNumbers}
use Rattle.placing.specs.Load.{alone, Focus}
use Rattle.placing.specs.Named.{dx, same_place, none_or, on_crop, uncropped, placed_frame, listed_points, has_number, window_focus, placed_in, window_by, window_of, named_outcome}
use Rattle.placing.specs.Points.{table_of}
use Rattle.placing.specs.declared.points.PointTable.{PointTable}
use Rattle.placing.specs.declared.points.PointTable.TheVariants.{NikonD600}
use Rattle.placing.specs.Recorded.{point_in, scaled_to, shifts, moved_point, in_window, onto_window, onto_picture, shaped_window, onto, cut_of, by_crop, position_of}
use Rattle.placing.specs.declared.named.Window.{Window as Part}
use Rattle.placing.specs.declared.recorded.CutSides.{CutSides}
use Rattle.placing.specs.declared.recorded.CutSides.TheVariants.{Other, Both, Width, Height}

-- accepted, or refused by a number from 1 to 6
pub data Numbered {A : Type 0} : Outcome A → Type 0 where
  number : (n : ℕ) → 1 ≤ n → n ≤ 6 → Numbered (refused n)
  fine : {a : A} → Numbered (accepted a)

at_1 : {A : Type 0} → Numbered {A = A} (refused 1)
at_1 = number 1 (omega arith) (omega arith)

at_2 : {A : Type 0} → Numbered {A = A} (refused 2)
at_2 = number 2 (omega arith) (omega arith)

at_4 : {A : Type 0} → Numbered {A = A} (refused 4)
at_4 = number 4 (omega arith) (omega arith)

at_5 : {A : Type 0} → Numbered {A = A} (refused 5)
at_5 = number 5 (omega arith) (omega arith)

at_6 : {A : Type 0} → Numbered {A = A} (refused 6)
at_6 = number 6 (omega arith) (omega arith)

-- a choice, one after another, and one refusal more
either : {A : Type 0} (b : Bool) (x y : Outcome A) → Numbered x → Numbered y → Numbered (cond b x y)
either true x y h k = h
either false x y h k = k

next : {A B : Type 0} (x : Outcome A) (g : A → Outcome B) → Numbered x → ((a : A) → Numbered (g a)) → Numbered (and_then x g)
next (refused n) g (number _ a b) k = number n a b
next (accepted a) g h k = k a

too : {A : Type 0} (b : Bool) (x : Outcome A) → Numbered x → Numbered (refused_too 3 b x)
too false x h = h
too true (refused m) (number _ a b) = number (min 3 m) (omega arith) (omega arith)
too true (accepted a) h = number 3 (omega arith) (omega arith)

-- ---- 1
directory : (o : ByteOrder) (i : Option Ifd) → Numbered (by_directory o i)
directory o (Some d) = fine
directory o None = at_1

block : (s : List ℕ) → Numbered (block_of s)
unfolding block_of by_mark in_order
block s =
    either (leb 8 (length s) && leb (length s) 1048576) _ (refused 1)
    (either (same (take 4 s) little_mark) _ _ (directory Little (directory_of Little s))
    (either (same (take 4 s) big_mark) _ (refused 1) (directory Big (directory_of Big s)) at_1))
    at_1

-- ---- 2 and 4
layout : (o : ByteOrder) (v : List ℕ) (k : Option Layout) → Numbered (by_layout o v k)
layout o v (Some l) = either (leb l.min_len (length v)) (accepted (record_in o v l)) (refused 4) fine at_4
layout o v None = at_4

info : (o : ByteOrder) (s : List ℕ) → Numbered (af_info2_of o s)
unfolding af_info2_of record_of
info o s =
    let v = value_of s (find_of o s 183) in
    either (eqb (type_of (find_of o s 183)) 7) (by_layout o v (layout_of v)) (refused 2) (layout o v (layout_of v)) at_2

note : (s : List ℕ) (raw : Option Size) → Numbered (values_of s raw)
unfolding values_of values_in
note s raw =
    next (block_of s) _ (block s) (λ o. next _ _ (too (manual_focus_of o s) (af_info2_of o s) (info o s)) (λ r. fine))

-- ---- 5
inside : (p : FocusPoint) (f w : Size) → Numbered (in_window p f w)
unfolding in_window
inside p f w =
    either
    (shifts p.center.x f.width w.width && shifts p.center.y f.height w.height && point_fits w (moved_point p f w))
    (point_in w (moved_point p f w)) (refused 5) fine at_5

window : (c : CutSides) (p : FocusPoint) (f w : Size) → Numbered (onto_window c p f w)
unfolding scaled_to
window Both p f w = either (has_zero_side w) (refused 5) (point_in w (scaled_point p f w)) at_5 fine
window Width p f w = either (eqb w.height f.height) (in_window p f w) (refused 5) (inside p f w) at_5
window Height p f w = either (eqb w.width f.width) (in_window p f w) (refused 5) (inside p f w) at_5
window Other p f w = at_5

target : (c : CutSides) (p : FocusPoint) (f : Size) (a : CropArea) (t : Option Size) → Numbered (onto c p f a t)
unfolding onto_picture
target c p f Unusable t = at_5
target c p f (Window w) t = window c p f w
target c p f Absent None = fine
target c p f Absent (Some t) = either (has_zero_side t) (refused 5) _ at_5 (window c p f (shaped_window c f t))

crop : (p : FocusPoint) (f : Size) (k : Option CropHiSpeed) (a : CropArea) (t : Option Size) → Numbered (by_crop p f k a t)
crop p f None a t = fine
crop p f (Some c) a t = either (same_size c.cropped c.original) (point_in f p) (onto (cut_of c) p f a t) fine (target (cut_of c) p f a t)

position : (p : FocusPoint) (f : Size) (k : Option CropHiSpeed) (a : CropArea) (t : Option Size) → Numbered (position_of p f k a t)
unfolding position_of
position p f k a t = either (point_fits f p) (by_crop p f k a t) (refused 5) (crop p f k a t) at_5

-- ---- 6
cropped : (c : CropHiSpeed) (t : Option Size) → Numbered (on_crop c t)
unfolding on_crop
cropped c t =
    either (eqb c.mode 2 && (same_place c.origin dx.origin && none_or t dx.frame)) (accepted dx) (refused 6) fine at_6

frame : (k : Option CropHiSpeed) (t : Option Size) → Numbered (placed_frame k t)
unfolding placed_frame
frame None t = fine
frame (Some c) t = either (same_size c.cropped c.original) (accepted (uncropped t)) (on_crop c t) fine (cropped c t)

in_frame_lem : (w : Outcome Part) (primary mask : ℕ) (m : FocusAreaMode) → Numbered w → Numbered (placed_in w primary mask m)
unfolding placed_in
in_frame_lem (refused n) primary mask m (number _ a b) = number n a b
in_frame_lem (accepted w) primary mask m h =
    either (has_number primary (listed_points w primary mask)) (accepted (window_focus w primary mask m)) (refused 6) fine at_6

table : (p : Option PointTable) (code : ℕ) (k : Option CropHiSpeed) (t : Option Size) → Numbered (window_by p code k t)
table None code k t = at_6
table (Some NikonD600) code k t = either (eqb code 3) (placed_frame k t) (refused 6) (frame k t) at_6

named : (n : Option NamedPoints) (model : List ℕ) (k : Option CropHiSpeed) (t : Option Size) (m : FocusAreaMode) → Numbered (named_outcome n model k t m)
unfolding named_outcome window_of
named None model k t m = at_6
named (Some names) model k t m =
    in_frame_lem (window_of names.layout_code model k t) names.primary names.mask m (table (table_of model) names.layout_code k t)

-- ---- a whole load
record_placed : (r : FocusRecord) (k : Option CropHiSpeed) (a : CropArea) (t : Option Size) (model : List ℕ) → Numbered (placed_of r k a t model)
unfolding placed_of
record_placed r k a t model =
    either (records_position r)
    (and_then (position_of (point_of r) r.frame k a t) (λ q. alone q.frame q.point r.area_mode))
    (named_outcome r.named model k t r.area_mode)
    (next (position_of (point_of r) r.frame k a t) (λ q. alone q.frame q.point r.area_mode) (position (point_of r) r.frame k a t) (λ q. fine))
    (named r.named model k t r.area_mode)

pub numbered_load : (s : List ℕ) (raw picture : Option Size) (model : List ℕ) → Numbered (focus_of s raw picture model)
unfolding focus_of
numbered_load s raw picture model =
    next (values_of s raw) _ (note s raw) (λ v. record_placed v.recorded v.crop v.area picture model)

pub load_numbers : LoadNumbers
load_numbers s raw picture model n e = told (rw e at (numbered_load s raw picture model))
  where
    told : {n : ℕ} → Numbered {A = Focus} (refused n) → (1 ≤ n) × (n ≤ 6)
    told (number _ a b) = (a, b)
