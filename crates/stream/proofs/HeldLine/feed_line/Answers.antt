-- `HeldLine::feed_line`: a run of characters, and where a feed ends it one answer. Assumes nothing.
use Rattle.std.proofs.Common.{arith}
use Rattle.stream.proofs.Laws as laws
use Rattle.stream.proofs.HeldLine.feed_line.Goals as goal

pub returns-then-used-input-clause-taken : goal.returns-then-used-input-clause-taken
returns-then-used-input-clause-taken c =
    laws.line_ends _ _ _ c.if-used-input.true (c.take_run-used.ensures.run.at_feed c.if-used-input.true) c.take_run-used.ensures.run.chars c.answer-at.ensures.left c.answer-at.ensures.put c.answer-at.ensures.short

pub returns-clause-taken : goal.returns-clause-taken
returns-clause-taken c =
    laws.line_goes_on _ _ _ _ _ c.take_run-used.ensures.run.used_part c.if-used-input.false c.take_run-used.ensures.run.chars (omega arith) (omega arith)
