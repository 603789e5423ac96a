-- `HeldLine::take_run`: the line takes the run up to the feed, as far as it has room. Assumes nothing.
use Rattle.std.proofs.Common.{◌≡◌, ◌≤◌, ◌∙◌, sym, ap, length, take, arith}
use lib.Seq.{sets, length-sets, length-take-le}
use Rattle.stream.specs.Stream.{line_room}
use Rattle.stream.proofs.Laws as laws
use Rattle.stream.proofs.HeldLine.take_run.Goals as goal

pub slice_bounds-put_run-end : goal.slice_bounds-put_run-end
slice_bounds-put_run-end c =
    let u : c.unwrap_or-used.result ≤ length c.args.input.now = laws.feed_within c.args.input.now _ (rw c.first_feed.ensures at c.unwrap_or-used.ensures) in
    sym (length-take-le c.min-kept.result c.args.input.now (omega (arith, u, c.min-kept.ensures)))

pub invariant_of-self : goal.invariant_of-self
invariant_of-self c =
    let e : length c.args.self.now.line.now ≡ line_room = c.args.self.now.whole in
    record {
      whole = ap length c.put_run.ensures ∙ length-sets c.args.self.now.line.now c.args.self.now.held (take c.min-kept.result c.args.input.now) ∙ e;
      in_line = omega (arith, c.min-kept.ensures, c.args.self.now.in_line);
    }

pub returns-clause-run : goal.returns-clause-run
returns-clause-run c =
    rw c.put_run.ensures
    (laws.run_taken c.args.self.now.line.now c.args.input.now c.args.self.now.held c.min-kept.result c.unwrap_or-used.result
    c.args.self.now.whole c.args.self.now.in_line (rw c.first_feed.ensures at c.unwrap_or-used.ensures) c.min-kept.ensures)
