-- `check_sum`: what the chain sums. Assumes nothing.
use Rattle.std.proofs.Common.{rules, ◌≡◌, ◌+◌, ◌%◌, fold, arith}
use Rattle.hex_lines.proofs.Laws.{sum_told}
use Rattle.hex_lines.proofs.check_sum.Goals as goal

pub returns : goal.returns
returns c =
    let e : c.fold.result ≡ fold (λ t b. (t + b) % 256) 0 c.args.s.now = search rules in
    omega (arith, e, sum_told c.args.s.now 0 (omega arith))
