-- Read by read, the sheet and the held line are those that some bytes leave, from the fresh sheet on (`Taken`).
use Rattle.std.proofs.Common.{ℕ, ◌≤◌, List, [], length}
use Rattle.session.specs.Answering.{most_text}
use Rattle.sheet.specs.Sheet.{fresh_sheet}
use Rattle.stream.specs.Stream.{Taken}
use Rattle.focusdesk.proofs.main.Given as goal

abbrev pub invariant-loop : goal.invariant-loop
invariant-loop l = (all : List ℕ) × Taken fresh_sheet l.initial.line [] all l.after.sheet l.line l.after.held × (most_text ≤ length l.out)
