-- `afinfo::layout_of`: a version at a time, as the definition goes down the table. Assumes nothing.
use mathlib.Core.Path.{◌≡◌, refl, ◌∙◌, sym}
use mathlib.Core.Bool.{Bool, true, false}
use mathlib.Core.List.{List}
use Prim.Native.Nat.{ℕ, ◌+◌, ◌<◌}
use native.Mathlib.Numerals.{add-one}
use native.Mathlib.Omega.{arith}
use lib.ListN.{get_or, drop, take}
use lib.Seq.{drop-cons}
use Rattle.std.specs.Prelude.{Some, None}
use Rattle.numbers.specs.Bytes.{same}
use Rattle.reading.specs.Record.{layouts, no_layout, versions, layout_among, layout_of}
use Rattle.reading.specs.declared.afinfo.Version.{Version}
use Rattle.reading.specs.declared.afinfo.Layout.{Layout}
use Rattle.reading.proofs.afinfo.layout_of.Goals as goal

module _ (v : List ℕ) (i : ℕ) (h : i < 7) (d : Version) (u : List ℕ) (eu : u ≡ take 4 v) (r : Bool) (er : r ≡ same u (get_or versions i d).text) where
  hit : r ≡ true → (l : Layout) → l ≡ get_or layouts (get_or versions i d).layout no_layout → Some l ≡ layout_among (drop i versions) v
  unfolding layout_among
  hit e l el = rw (drop-cons versions i d h, ← eu, ← er, e, ← el)

  miss : r ≡ false → layout_among (drop i versions) v ≡ layout_among (drop (i + 1) versions) v
  unfolding layout_among
  miss e = rw (add-one i, drop-cons versions i d h, ← eu, ← er, e)

none : (v : List ℕ) (i : ℕ) → i ≡ 7 → None ≡ layout_among (drop i versions) v
unfolding layout_among
none v i e = rw e

pub loop-version-init : goal.loop-version-init
unfolding layout_of
loop-version-init c = refl

pub returns-then-equals : goal.returns-then-equals
returns-then-equals c = hit c.args.value.now c.loop-version.version-index c.loop-version-test.true _ _ c.head-start.ensures _ c.equals.ensures c.if-equals.true _ c.layout_at.ensures ∙ sym c.loop-version.invariant

pub loop-version-preserved : goal.loop-version-preserved
loop-version-preserved c = c.loop-version.invariant ∙ miss c.args.value.now c.loop-version.version-index c.loop-version-test.true _ _ c.head-start.ensures _ c.equals.ensures c.if-equals.false

pub returns : goal.returns
returns c = none c.args.value.now c.loop-version.version-index (omega (arith, c.loop-version-test.false, c.loop-version.auto.version-index-end)) ∙ sym c.loop-version.invariant
