-- `all_digits`: one more character. Assumes nothing.
use Rattle.hex_lines.proofs.Laws as laws
use Rattle.hex_lines.proofs.all_digits.Goals as goal

pub loop-c-preserved : goal.loop-c-preserved
loop-c-preserved c = laws.digits_more _ _ c.loop-c-test.true _ c.digit_of.ensures _ c.loop-c.invariant

pub returns : goal.returns
returns c = laws.digits_all _ _ c.loop-c-test.false _ c.loop-c.invariant
