-- `answer_all`: one more line. Assumes nothing.
use Rattle.std.proofs.Common.{rules, arith}
use Rattle.std.proofs.lemmas.List.Sorted.{answers_always}
use Rattle.text.specs.Put.{Writes}
use Rattle.script.specs.Script.{script_text}
use Rattle.script.proofs.Laws.{is_feed, first_piece}
use Rattle.script.proofs.Answering as steps
use Rattle.script.proofs.answer_all.Goals as goal

pub loop-line-init : goal.loop-line-init
loop-line-init c =
    rw (c.into_iter-line-iterator.ensures.into_iter_gives, c.split_inclusive-line-items.ensures.rest)
    (steps.all_start _ _ _ c.new-sheet.ensures (omega arith) (omega arith))

pub loop-line-preserved : goal.loop-line-preserved
loop-line-preserved c =
    let s = c.in-Some.ensures.steps in
    let p = s.1.2 is_feed (answers_always _ _ _ (λ f a r q h. search rules)) in
    steps.all_more _ _ _ _ _ (first_piece _ _ _ _ s.1.0 s.0 s.1.1 s.2 p.1 c.without_feed.ensures) c.loop-line.invariant c.step-sheet.ensures

pub returns : goal.returns
returns c =
    let p : Writes c.new-writer.result (script_text c.args.script.now) c.loop-line.writer =
    steps.all_done _ _ c.in-None.ensures.steps.0 c.loop-line.invariant in
    search rules
