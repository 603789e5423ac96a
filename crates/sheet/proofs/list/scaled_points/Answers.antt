-- `list::scaled_points`: one point more is scaled, and at the end all of them. Assumes nothing.
use mathlib.Core.List.{List, append-nil}
use mathlib.Core.Path.{◌≡◌, refl, ap, ◌∙◌}
use Prim.Native.Nat.{ℕ, ◌≤◌}
use lib.ListN.{get_or, length, take, drop, drop_of_length-le}
use lib.Seq.{take_all}
use Rattle.std.proofs.Common.{◌++◌, map}
use native.Mathlib.Omega.{arith}
use Rattle.std.proofs.lemmas.List.{get_or_default}
use Rattle.std.proofs.lemmas.List.Edits.{map_over_more}
use Rattle.placing.specs.Load.{no_point}
use Rattle.placing.specs.declared.focus.FocusPoint.{FocusPoint}
use Rattle.placing.specs.Scale.{scaled_point}
use Rattle.sheet.specs.Lists.{scaled_all}
use Rattle.sheet.proofs.list.scaled_points.Goals as goal

all_mapped : (f : FocusPoint → FocusPoint) (ps : List FocusPoint) (i : ℕ) → length ps ≤ i → map f (take i ps) ++ drop i ps ≡ map f ps
all_mapped f ps i h = rw (take_all i ps h, drop_of_length-le ps h) (append-nil (map f ps))

pub loop-point-init : goal.loop-point-init
loop-point-init c = refl

pub loop-point-preserved : goal.loop-point-preserved
loop-point-preserved c =
    let f : FocusPoint → FocusPoint = λ p. scaled_point p c.args.old c.args.new in
    let ps = c.loop-point.point-items in
    let i = c.loop-point.point-index in
    let p = get_or ps i no_point in
    rw c.scaled_point.ensures
    (map_over_more f (take c.args.n c.args.points) ps i p c.loop-point-test.true c.loop-point.invariant (get_or_default ps i no_point p (omega arith)))

pub returns : goal.returns
unfolding scaled_all
returns c =
    let f : FocusPoint → FocusPoint = λ p. scaled_point p c.args.old c.args.new in
    ap (λ (l : List FocusPoint). l ++ drop c.args.n c.args.points)
    (c.loop-point.invariant ∙ all_mapped f (take c.args.n c.args.points) _ c.loop-point-test.false)
