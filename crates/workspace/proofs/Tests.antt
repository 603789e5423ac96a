-- The tests of a workspace's calls, in the code's order. Assumes nothing.
use Prim.Native.Nat.{ℕ, ◌<◌, ◌≤◌}
use mathlib.Core.Bool.{true, false}
use mathlib.Core.List.{List}
use mathlib.Core.Path.{◌≡◌}
use lib.Dec.{ltb, eqb}
use lib.ListN.{length}
use borrow.Author.Tests.{lt-ltb, le-ltb, leb-true, ltb-false}
use Rattle.laws.proofs.Tests.{both, neither}
use Rattle.reading.specs.Outcome.{Outcome}
use Rattle.sheet.specs.Sheet.{leaves, kept_by}
use Rattle.workspace.specs.declared.Workspace.{Workspace}
use Rattle.workspace.specs.Names.{is_bad_name}
use Rattle.workspace.specs.Workspace.{is_counted, usable_in, if_named, place_of, keep_at, keep_in, return_at, return_in}

-- a name that is not bad fits its places
pub name_fits : (name : List ℕ) → is_bad_name name ≡ false → length name ≤ 16
unfolding is_bad_name
name_fits name e =
    ltb-false 16 (length name) (neither (eqb (length name) 0) (ltb 16 (length name)) e).1

pub counted : (w : Workspace) → usable_in w ≡ true → w.count ≤ 8
counted w u = leb-true w.count 8 (both (is_counted w) _ u).0

-- past 7 and 16
when_named : (w : Workspace) (name : List ℕ) → usable_in w ≡ true → is_bad_name name ≡ false → (x : Outcome (List ℕ) × Workspace)
    → x ≡ if_named w name x
unfolding if_named
when_named w name u b x = rw (u, b)

-- by the place of the name
module _ (w : Workspace) (name : List ℕ) (u : usable_in w ≡ true) (b : is_bad_name name ≡ false) (at : ℕ) (p : at ≡ place_of w name) where
  pub keep_ninth : 8 ≤ at → kept_by 17 w ≡ keep_in w name
  unfolding keep_in
  keep_ninth h = rw (← p, le-ltb at 8 h) (when_named w name u b (kept_by 17 w))

  pub keep_done : at < 8 → (v : Workspace) → v ≡ keep_at w name at → leaves v ≡ keep_in w name
  unfolding keep_in
  keep_done h v g = rw (← p, lt-ltb at 8 h, ← g) (when_named w name u b (leaves v))

  pub return_none : w.count ≤ at → kept_by 18 w ≡ return_in w name
  unfolding return_in
  return_none h = rw (← p, le-ltb at w.count h) (when_named w name u b (kept_by 18 w))

  pub return_done : at < w.count → (v : Workspace) → v ≡ return_at w at → leaves v ≡ return_in w name
  unfolding return_in
  return_done h v g = rw (← p, lt-ltb at w.count h, ← g) (when_named w name u b (leaves v))
