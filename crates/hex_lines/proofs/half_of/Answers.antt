-- `half_of`: the digit's value where it is one, and 0. Assumes nothing.
use Rattle.std.proofs.Common.{arith}
use Rattle.hex_lines.proofs.Laws as laws
use Rattle.hex_lines.proofs.half_of.Goals as goal

pub returns-then-digit-lt16 : goal.returns-then-digit-lt16
returns-then-digit-lt16 c = (laws.half_in _ _ c.digit_of-digit.ensures c.if-digit-lt16.true, c.if-digit-lt16.true)

pub returns-else-digit-lt16 : goal.returns-else-digit-lt16
returns-else-digit-lt16 c = (laws.half_out _ _ c.digit_of-digit.ensures c.if-digit-lt16.false, omega arith)
