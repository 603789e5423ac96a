-- `digit_of`: each way out by the tests before it; a character of a range is not below the range. Assumes nothing.
use Rattle.hex_lines.proofs.Laws as laws
use Rattle.hex_lines.proofs.digit_of.Goals as goal

pub returns-then-is_within : goal.returns-then-is_within
returns-then-is_within c = laws.digit_decimal _ _ c.is_within.ensures c.if-is_within.true

pub returns-then-is_within-2 : goal.returns-then-is_within-2
returns-then-is_within-2 c = laws.digit_upper _ _ c.is_within.ensures c.if-is_within.false _ c.is_within-2.ensures c.if-is_within-2.true

pub returns-then-is_within-3 : goal.returns-then-is_within-3
returns-then-is_within-3 c = laws.digit_lower _ _ c.is_within.ensures c.if-is_within.false _ c.is_within-2.ensures c.if-is_within-2.false _ c.is_within-3.ensures c.if-is_within-3.true

pub returns : goal.returns
returns c = laws.digit_none _ _ c.is_within.ensures c.if-is_within.false _ c.is_within-2.ensures c.if-is_within-2.false _ c.is_within-3.ensures c.if-is_within-3.false
