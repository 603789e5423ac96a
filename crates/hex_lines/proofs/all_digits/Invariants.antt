-- `all_digits`: the loop's invariant is that the line holds digits only where those before do and the characters left are. Assumes nothing.
use Rattle.std.proofs.Common.{◌≡◌, drop}
use mathlib.Core.Bool.{◌&&◌}
use Rattle.hex_lines.specs.Hex.{all_digits}
use Rattle.hex_lines.proofs.all_digits.Given as goal

abbrev pub invariant-loop-c : goal.invariant-loop-c
invariant-loop-c l = all_digits l.line ≡ (l.all && all_digits (drop l.c-index l.line))
