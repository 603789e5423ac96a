-- What a script's answer returns, of the number that `script` promises: by whether the text has room. Assumes nothing.
use Rattle.std.proofs.Common.{ℕ, List, ◌≡◌, unwrap_or, arith}
use Rattle.script.specs.Script.{answered_with}
use Rattle.focuspoints.specs.Script.{script_length}

pub script_told : (text out : List ℕ) → unwrap_or (answered_with text out) 18446744073709551615 ≡ script_length text out
unfolding answered_with script_length
script_told text out = grind arith
