-- `ifd::tags_from`: the loop collects the tags at the front of the places; what is left of the entries, and of the wanted tags those that
-- are missing, still decide. As each tag that is met was missing, four places are enough. Assumes nothing.
use native.Mathlib.Omega.{arith}
use native.Mathlib.Numerals.{unary_clauses}
use Rattle.reading.proofs.ifd.tags_from.Invariants.{place_left, one_more, none_more, next_entry, within, start, end}
use Rattle.reading.proofs.ifd.tags_from.Goals.{then-is_first, else-is_first}
use Rattle.reading.proofs.ifd.tags_from.Goals as goal

pub loop-i-init : goal.loop-i-init
loop-i-init c = (omega arith, simp unary_clauses (start _ _ _ c.args.directory.first c.args.directory.count c.requires.1))

pub bounds-tags-met : goal.bounds-tags-met
bounds-tags-met c =
    place_left _ _ _ _ _ _ _ _ (omega (arith, c.loop-i-test.true)) c.loop-i.invariant.1 _ c.is_first.ensures c.if-is_first.true

pub loop-i-preserved : goal.loop-i-preserved
loop-i-preserved c =
    elim c.if-is_first.branch [
      | then-is_first w ↦
          let g = next_entry _ _ _ (one_more _ _ _ _ _ _ _ _ (omega (arith, c.loop-i-test.true)) c.loop-i.invariant.1 _ c.is_first.ensures w.if-is_first.true _ w.u16_at.ensures) in
          rw (w.tags-is, w.met-is) (within g, g)
      | else-is_first w ↦
          let g = next_entry _ _ _ (none_more _ _ _ _ _ _ _ _ (omega (arith, c.loop-i-test.true)) c.loop-i.invariant.1 _ c.is_first.ensures w.if-is_first.false) in
          rw (w.tags-is, w.met-is) (within g, g)
    ]

pub returns : goal.returns
returns c = end _ _ _ _ _ _ _ _ (omega (arith, c.loop-i-test.false)) c.loop-i.invariant.1
