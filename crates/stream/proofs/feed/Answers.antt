-- `feed`: of a line no more is held than it has. Assumes nothing.
use Rattle.std.proofs.Common.{◌≡◌, length, take, rules}
use Rattle.stream.specs.Stream.{line_room, Feeds}
use Rattle.stream.proofs.Laws as laws
use Rattle.stream.proofs.feed.Goals as goal

pub returns : goal.returns
returns c =
    let e : length c.args.line.now ≡ line_room = search rules in
    let p : Feeds c.args.sheet c.args.line.now (take c.args.held c.args.line.now) c.args.input.now c.args.out.now c.args.at c.feed_lines.new.out c.feed_lines.new.self.line.now c.feed_lines.result =
    laws.feeds_any c.args.line.now c.args.held c.new-held_line.result.held c.new-held_line.ensures.count e
    (rw c.new-held_line.ensures.characters at c.feed_lines.ensures.fed) in
    search rules
