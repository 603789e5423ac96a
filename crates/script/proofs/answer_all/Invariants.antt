-- `answer_all`: the loop's invariant is that the text left is that of the sheet over the lines of the rest. Assumes nothing.
use Rattle.text.proofs.Laws as text
use Rattle.script.specs.Script.{script_text}
use Rattle.script.proofs.Answering as steps
use Rattle.script.proofs.answer_all.Given as goal

abbrev pub invariant-loop-line : goal.invariant-loop-line
invariant-loop-line l = text.Going l.initial.writer (script_text l.script) l.writer (steps.rest_text l.sheet l.line-iterator.rest.now)
