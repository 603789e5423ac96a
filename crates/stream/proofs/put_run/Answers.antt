-- `put_run`: the characters over the line's places. Assumes nothing.
use Rattle.std.proofs.Common.{arith, ◌≡◌, length, take, drop, ◌+◌, ◌-◌}
use mathlib.Core.List.{append_assoc}
use lib.Seq.{drop-drop}
use Rattle.std.proofs.lemmas.List.Edits.{sets-eq}
use Rattle.stream.proofs.put_run.Goals as goal

pub returns : goal.returns
returns c =
    let k : (c.args.at + length c.args.run.now) - c.args.at ≡ length c.args.run.now = omega arith in
    let s = sets-eq c.args.run.now c.args.line.now c.args.at c.requires in
    rw (c.copy_from_slice.ensures.after, k, s, append_assoc (take c.args.at c.args.line.now) c.args.run.now (drop (c.args.at + length c.args.run.now) c.args.line.now), drop-drop (length c.args.run.now) c.args.at c.args.line.now)
