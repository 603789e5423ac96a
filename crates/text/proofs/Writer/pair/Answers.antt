-- `Writer::pair`: the word and the number, joined. Assumes nothing.
use Rattle.std.proofs.Common.{arith}
use Rattle.text.proofs.Laws.{◌▹◌, up_to}
use Rattle.text.proofs.Writer.pair.Goals as goal

pub returns : goal.returns
returns c = up_to c.bytes.ensures (omega arith) ▹ c.number.ensures
