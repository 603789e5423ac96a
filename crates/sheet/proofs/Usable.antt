-- A usable sheet's counts, and what cut and orient come to past the refusals that they share. Assumes nothing.
use Prim.Native.Nat.{ℕ, ◌<◌, ◌≤◌}
use mathlib.Core.Bool.{true}
use mathlib.Core.List.{List}
use mathlib.Core.Path.{◌≡◌}
use lib.Dec.{leb, ltb}
use borrow.Author.Tests.{ltb-true, lt-ltb, leb-true}
use Rattle.std.specs.Option.{is_some}
use Rattle.laws.proofs.Tests.{both}
use Rattle.reading.specs.Outcome.{Outcome}
use Rattle.placing.specs.declared.load.FocusPoints.{FocusPoints}
use Rattle.sheet.specs.declared.Sheet.{Sheet}
use Rattle.sheet.specs.Sheet.{load_on, usable, if_open}

-- what the test usable tells
pub record Counts (s : Sheet) : Type 0 where
  pub points : (load_on s).count ≤ 39
  pub primary : (load_on s).primary < (load_on s).count
  pub edits : s.row.count ≤ 64

pub usable_told : (s : Sheet) → usable s ≡ true → Counts s
unfolding usable
usable_told s h =
    let a = both (is_some s.load) _ h in
    let b = both (leb (load_on s).count 39) _ a.1 in
    let d = both (ltb (load_on s).primary (load_on s).count) _ b.1 in
    record {
      points = leb-true (load_on s).count 39 b.0;
      primary = ltb-true (load_on s).primary (load_on s).count d.0;
      edits = leb-true s.row.count 64 d.1;
    }

-- past the refusals that cut and orient share
pub when_open : (s : Sheet) → usable s ≡ true → s.row.count < 64 → (x : Outcome (List ℕ) × Sheet) → x ≡ if_open s x
unfolding if_open
when_open s u a x = rw (u, lt-ltb s.row.count 64 a)

-- the whole load can be walked
module _ (s : Sheet) (u : usable s ≡ true) (l : FocusPoints) (e : l ≡ load_on s) where
  pub primary_in : l.primary < l.count
  primary_in = rw e (usable_told s u).primary

  pub counted : l.count ≤ 39
  counted = rw e (usable_told s u).points

  pub row_counted : s.row.count ≤ 64
  row_counted = (usable_told s u).edits
