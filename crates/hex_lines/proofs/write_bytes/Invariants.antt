-- `write_bytes`: the loop's invariant is that the bytes of what is left, laid behind those that are written, are the bytes of the line.
-- Assumes nothing.
use Rattle.std.proofs.Common.{◌≡◌, ◌+◌, ◌*◌, ◌≤◌, length, ℕ, List}
use lib.Seq.{sets}
use Rattle.hex_lines.specs.Hex.{bytes_of}
use Rattle.hex_lines.proofs.write_bytes.Given as goal

pub record Left (size count : ℕ) (rest out all : List ℕ) : Type 0 where
  pub pairs : size ≡ 2
  pub room : 2 * count + length rest ≤ 4096
  pub left : sets out count (bytes_of rest) ≡ all

abbrev pub invariant-loop-i : goal.invariant-loop-i
invariant-loop-i l =
    Left l.i-iterator.iter.size l.i-iterator.count l.i-iterator.iter.rest.now l.out (sets l.initial.out 0 (bytes_of l.line))
