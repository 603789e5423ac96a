-- `write_bytes`: two more digits, and none at the end. Assumes nothing.
use Rattle.std.proofs.Common.{◌≡◌, ◌+◌, length, arith, sym, ap, ◌∙◌, length-append}
use Rattle.hex_lines.proofs.Laws.{left_more, left_none}
use Rattle.hex_lines.proofs.write_bytes.Goals as goal

pub loop-i-preserved : goal.loop-i-preserved
loop-i-preserved c =
    let s = c.in-Some.ensures.steps in
    let p = c.loop-i.invariant in
    let e = s.0.1.0 in
    let two : length c.in-Some.digits.now ≡ 2 = s.0.1.1 ∙ p.pairs in
    let n : length c.loop-i.i-iterator.iter.rest.now ≡ length c.in-Some.digits.now + length c.next.new.self.iter.rest.now =
    ap length e ∙ length-append c.in-Some.digits.now c.next.new.self.iter.rest.now in
    record {
      pairs = s.0.0 ∙ p.pairs;
      room = omega (arith, n, two, s.2, p.room);
      left = rw (s.2, s.1) (sym (left_more _ _ _ _ _ two c.byte_of.ensures) ∙ rw e at p.left);
    }

pub returns : goal.returns
returns c =
    let p = c.loop-i.invariant in
    let h = c.in-None.ensures.steps.0.1.0 in
    sym (left_none _ _ _ (rw p.pairs at h)) ∙ p.left
