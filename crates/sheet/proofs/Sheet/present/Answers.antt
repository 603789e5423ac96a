-- `Sheet::present`: the loop's invariant is that the places hold the points that are listed from `from` up to i, and that place and index
-- are the primary's once it has been seen. Assumes nothing.
use mathlib.Core.Path.{◌≡◌, sym, ap, ◌∙◌}
use native.Mathlib.Omega.{arith}
use Rattle.placing.specs.declared.load.FocusPoints.{FocusPoints}
use Rattle.sheet.specs.Sheet.{load_on}
use Rattle.sheet.proofs.Walked.{reached}
use Rattle.placing.specs.Laid.{places}
use Rattle.sheet.proofs.Listed.{empty_row, place_left, one_in, none_in, seen_now, seen_before, all_seen}
use Rattle.sheet.proofs.Sheet.present.Goals.{then-carried, else-carried, then-i-at, else-i-at}
use Rattle.sheet.proofs.Sheet.present.Goals as goal

pub loop-i-init : goal.loop-i-init
unfolding places
loop-i-init c =
    let h = c.requires in
    let k : c.args.load.now.primary ≡ (load_on c.args.self.now).primary = ap (λ (l : FocusPoints). l.primary) h.0 in
    (omega arith, omega (arith, h), empty_row _ _ _ c.no_places-points.ensures, λ l. absurd (omega (arith, h, k)))

pub offset_bounds-points-count : goal.offset_bounds-points-count
offset_bounds-points-count c = let l = place_left _ _ _ _ _ (omega (arith, c.requires)) c.loop-i.invariant.2 in omega arith

pub bounds-points-count : goal.bounds-points-count
bounds-points-count c = place_left _ _ _ _ _ (omega (arith, c.requires)) c.loop-i.invariant.2

pub overflow_add-count : goal.overflow_add-count
overflow_add-count c = let l = place_left _ _ _ _ _ (omega (arith, c.requires)) c.loop-i.invariant.2 in omega arith

pub loop-i-preserved : goal.loop-i-preserved
loop-i-preserved c =
    let h = c.requires in
    let u = c.loop-i.invariant in
    let k : c.args.load.now.primary ≡ (load_on c.args.self.now).primary = ap (λ (l : FocusPoints). l.primary) h.0 in
    let e : c.place_after-carried.result ≡ reached c.args.self.now c.loop-i.i = rw (← h.0) c.place_after-carried.ensures in (
      omega arith,
      omega arith,
      elim c.if-carried.branch [
        | then-carried w ↦ one_in _ _ _ _ _ (omega (arith, h)) u.2 u.0 _ h.4 e _ _ w.if-carried.true w.count-is w.points-is
        | else-carried w ↦ none_in _ _ _ _ _ (omega (arith, h)) u.2 u.0 _ h.4 e _ _ w.if-carried.false w.count-is w.points-is
      ],
      elim c.if-i-at.branch [
        | then-i-at w ↦ seen_now _ _ _ _ _ _ u.2.0 (w.if-i-at.true ∙ k) _ h.4 e w.primary-is w.index-is
        | else-i-at w ↦ seen_before _ _ _ _ _ (λ g. w.if-i-at.false (g ∙ sym k)) _ _ u.3 w.primary-is w.index-is
      ],
    )

pub returns : goal.returns
returns c =
    let u = c.loop-i.invariant in
    let h = c.requires in
    let k : c.args.load.now.primary ≡ (load_on c.args.self.now).primary = ap (λ (l : FocusPoints). l.primary) h.0 in
    all_seen _ _ _ _ _ _ _ _ u.1 c.loop-i-test.false (omega (arith, h, k)) u.2 u.3
