-- Feeding again and again takes the part from its start on (`Serving`), all of it or up to a write that fails.
use Rattle.std.proofs.Common.{refl, arith}
use Rattle.focusdesk.proofs.Laws as laws
use Rattle.focusdesk.proofs.serve.Goals as goal

pub loop-rest-init : goal.loop-rest-init
loop-rest-init g c = (laws.serving_none _ _ _ _ c.requires.line_len, refl)

pub returns-then-not-once : goal.returns-then-not-once
returns-then-not-once g c = laws.serves_some _ _ c.loop-rest.invariant.0 c.serve_once-once.ensures _ c.is_empty.ensures c.loop-rest-test.true

pub loop-rest-preserved : goal.loop-rest-preserved
loop-rest-preserved g c =
    (laws.serving_more _ _ c.loop-rest.invariant.0 c.serve_once-once.ensures, omega (arith, c.loop-rest.invariant.1, c.serve_once-once.auto.out))

pub returns : goal.returns
returns g c = laws.serves_all _ _ c.loop-rest.invariant.0 _ c.is_empty.ensures c.loop-rest-test.false
