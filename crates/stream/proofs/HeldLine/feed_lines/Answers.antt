-- `HeldLine::feed_lines`: one more line, and what the loop leaves. Assumes nothing.
use Rattle.std.proofs.Common.{◌≡◌, ◌∙◌, length, refl, sym, arith}
use Rattle.stream.specs.Stream.{line_room}
use Rattle.stream.proofs.Laws as laws
use Rattle.stream.proofs.HeldLine.feed_lines.Goals as goal
use Rattle.stream.proofs.HeldLine.feed_lines.Goals.{then-loop-self-test+else-room_for_answer, else-loop-self-test}

pub loop-self-init : goal.loop-self-init
loop-self-init c =
    let e : length c.args.self.now.line.now ≡ line_room = c.args.self.now.whole in
    (refl, refl, laws.rest_none _ _ _ _ _ _ (omega arith) (omega arith) (omega arith) (omega arith))

pub loop-self-preserved : goal.loop-self-preserved
loop-self-preserved c = (
  c.feed_line-fed.ensures.same_line ∙ c.loop-self.invariant.0,
  c.feed_line-fed.ensures.same_count,
  laws.rest_more _ _ c.loop-self.invariant.2 _ c.room_for_answer.ensures c.if-room_for_answer.true
      (rw (sym c.loop-self.invariant.1) at c.feed_line-fed.ensures.taken),
)

pub returns-clause-fed : goal.returns-clause-fed
returns-clause-fed c =
    elim c.loop-self-test.branch [
      | then-loop-self-test+else-room_for_answer w ↦ laws.rest_stops _ _ c.loop-self.invariant.2 _ w.room_for_answer.ensures w.if-room_for_answer.false
      | else-loop-self-test w ↦ laws.rest_ends _ _ c.loop-self.invariant.2 _ c.is_empty.ensures w.loop-self-test.false
    ]
