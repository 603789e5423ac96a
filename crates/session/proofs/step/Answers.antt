-- `step`: by whether the line decodes. Assumes nothing.
use Rattle.std.proofs.Common.{rules}
use mathlib.Core.Path.{sym}
use Rattle.session.proofs.Laws as laws
use lib.Seq.{length-take-le}
use Rattle.session.proofs.step.Goals as goal

pub slice_bounds-bytes-end : goal.slice_bounds-bytes-end
slice_bounds-bytes-end c = laws.line_room_lem _ _ _ _ (c.decode.ensures.0) (c.decode.ensures.1) c.no_bytes-bytes.ensures _ c.in-Some.is

pub slice_bounds-answer_bytes-end : goal.slice_bounds-answer_bytes-end
slice_bounds-answer_bytes-end c = sym (length-take-le _ _ (laws.line_room_lem _ _ _ _ (c.decode.ensures.0) (c.decode.ensures.1) c.no_bytes-bytes.ensures _ c.in-Some.is))

pub returns-in_default : goal.returns-in_default
returns-in_default c = rw (laws.line_bad _ _ _ _ (c.decode.ensures.0) (c.decode.ensures.1) c.no_bytes-bytes.ensures (search rules)) c.answer_malformed.ensures

pub returns : goal.returns
returns c = rw (laws.line_good _ _ _ _ (c.decode.ensures.0) (c.decode.ensures.1) c.no_bytes-bytes.ensures _ c.in-Some.is) at c.answer_bytes.ensures
