-- `decode`: a malformed line leaves the buffer; the bytes of another one fit it, since the test bounds its length. Assumes nothing.
use Rattle.std.proofs.Common.{sym, ◌∙◌}
use borrow.Author.Tests.{not-false}
use Rattle.hex_lines.proofs.Laws as laws
use Rattle.std.proofs.Common.{ap, not}
use Rattle.hex_lines.proofs.decode.Goals as goal

pub returns-then-not-is_well_formed : goal.returns-then-not-is_well_formed
returns-then-not-is_well_formed c = laws.decode_bad _ _ _ c.is_well_formed.ensures (ap not c.if-not-is_well_formed.true)

pub write_bytes-requires : goal.write_bytes-requires
write_bytes-requires c = laws.well_short _ (sym c.is_well_formed.ensures ∙ not-false _ (ap not c.if-not-is_well_formed.false))

pub returns : goal.returns
returns c = laws.decode_good _ _ _ c.is_well_formed.ensures (ap not c.if-not-is_well_formed.false) _ c.write_bytes.ensures
