-- `put_point`: one more number, and the feed at the end. Assumes nothing.
use Rattle.std.proofs.Common.{◌≡◌, ◌+◌, ◌-◌, suc, arith}
use Rattle.text.proofs.Laws.{◌▹◌, at_most}
use Rattle.answers.specs.Answers.{space, point_text}
use Rattle.answers.proofs.Lines.{numbered, ended}
use Rattle.answers.proofs.put_point.Goals as goal

pub loop-k-preserved : goal.loop-k-preserved
loop-k-preserved c =
    let e : c.loop-k.k + 1 - 1 ≡ suc (c.loop-k.k - 1) = omega arith in
    let f : suc (c.loop-k.k - 1) ≡ c.loop-k.k = omega arith in
    rw e (at_most (c.loop-k.invariant ▹ numbered space (rw f c.word_at-in-loop-k.ensures) c.pair.ensures) (omega arith))

pub returns : goal.returns
unfolding point_text
returns c =
    let e : c.loop-k.k ≡ 6 = omega arith in
    rw e at c.loop-k.invariant ▹ ended c.byte.ensures
