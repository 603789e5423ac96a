-- A name, looked up by its position among the checkpoints in use. Assumes nothing.
use Prim.Native.Nat.{ℕ, suc, ◌+◌, ◌<◌, ◌≤◌}
use mathlib.Core.Bool.{Bool, true, false, not, cond}
use mathlib.Core.List.{List, [], ◌∷◌}
use mathlib.Core.Path.{◌≡◌, refl, sym, ◌∙◌}
use lib.Dec.{ltb}
use lib.ListN.{length, take}
use lib.Seq.{length-take-le}
use native.Mathlib.Omega.{arith}
use borrow.Author.Tests.{ltb-true, ltb-false}
use Rattle.std.proofs.Common.{Option, Some, None, Result, Ok, Err}
use Rattle.std.proofs.lemmas.List.Sums.{prefix_len-le-length}
use Rattle.std.specs.List.{position, position_or_len}
use Rattle.std.specs.Option.{MatchOption, unwrap_or, ok_or}
use Rattle.workspace.specs.declared.Checkpoint.{Checkpoint}
use Rattle.workspace.specs.declared.Workspace.{Workspace}
use Rattle.workspace.specs.Names.{holds_name}
use Rattle.workspace.specs.Workspace.{place_among, place_of}

abbrev pub named : List ℕ → Checkpoint → Bool
named name p = holds_name name p.name p.len

-- the place of a name is the first position that has it, or the length
as_position : (name : List ℕ) (ps : List Checkpoint) → place_among name ps ≡ position_or_len (named name) ps
unfolding place_among
as_position name [] = refl
as_position name (p ∷ ps) = by (named name p) (as_position name ps)
  where
    by : (b : Bool) → place_among name ps ≡ position_or_len (named name) ps
        → cond b 0 (suc (place_among name ps)) ≡ cond (not b) (1 + position_or_len (named name) ps) 0
    by true e = refl
    by false e = omega arith

-- the place of a name, or none where that is behind the checkpoints in use
abbrev pub StandsAt : Workspace → List ℕ → Option ℕ → Type 0
StandsAt w name o =
    MatchOption o (w.count ≡ place_of w name) (λ at. (at < w.count) × (at ≡ place_of w name))

module _ (w : Workspace) (name : List ℕ) where
  pub stands_at : w.count ≤ 8 → length w.checkpoints ≡ 8 → (o : Option ℕ) → o ≡ position (named name) (take w.count w.checkpoints)
      → StandsAt w name o
  stands_at h l o e =
      let ps = take w.count w.checkpoints in
      rw e
      (by (position_or_len (named name) ps) (length ps) (length-take-le w.count w.checkpoints (omega arith)) (as_position name ps)
      (prefix_len-le-length (λ x. not (named name x)) ps) (ltb (position_or_len (named name) ps) (length ps)) refl)
    where
      by : (n m : ℕ) → m ≡ w.count → place_of w name ≡ n → n ≤ m → (t : Bool) → ltb n m ≡ t → StandsAt w name (cond t (Some n) None)
      by n m a p l true f = let h = ltb-true n m f in (omega arith, sym p)
      by n m a p l false f = let h = ltb-false n m f in omega arith

  module _ (o : Option ℕ) where
    pub or_the_next : StandsAt w name o → unwrap_or o w.count ≡ place_of w name
    or_the_next s = by o s
      where
        by : (o : Option ℕ) → StandsAt w name o → unwrap_or o w.count ≡ place_of w name
        by None s = s
        by (Some at) s = s.1

    module _ {E : Type 0} (r : Result ℕ E) (y : E) (d : r ≡ ok_or o y) (s : StandsAt w name o) where
      pub stands : (at : ℕ) → r ≡ Ok at → (at < w.count) × (at ≡ place_of w name)
      stands at e = by o s (sym d ∙ e)
        where
          by : (o : Option ℕ) → StandsAt w name o → ok_or o y ≡ Ok at → (at < w.count) × (at ≡ place_of w name)
          by None s f = cc
          by (Some n) s f = let g : n ≡ at = cc in rw (← g) s

      pub stands_nowhere : (z : E) → r ≡ Err z → (z ≡ y) × (w.count ≡ place_of w name)
      stands_nowhere z e = by o s (sym d ∙ e)
        where
          by : (o : Option ℕ) → StandsAt w name o → ok_or o y ≡ Err z → (z ≡ y) × (w.count ≡ place_of w name)
          by None s f = (cc, s)
          by (Some n) s f = cc
