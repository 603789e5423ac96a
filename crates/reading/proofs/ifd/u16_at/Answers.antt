-- `ifd::u16_at`: the two bytes of the block are the first two of what starts there. Assumes nothing.
use mathlib.Core.Path.{◌≡◌}
use mathlib.Core.List.{List}
use Prim.Native.Nat.{ℕ, ◌+◌}
use native.Mathlib.Nat.{add-zero}
use lib.ListN.{get_or, drop}
use lib.Seq.{get_or-drop}
use Rattle.numbers.specs.Numbers.{joined, u16_of}
use Rattle.numbers.specs.declared.io.ByteOrder.{ByteOrder}
use Rattle.reading.proofs.ifd.u16_at.Goals as goal

from_there : (o : ByteOrder) (s : List ℕ) (at r : ℕ) → r ≡ joined o 256 (get_or s at 0) (get_or s (at + 1) 0) → r ≡ u16_of o (drop at s)
unfolding u16_of
from_there o s at r e = rw (get_or-drop at s 0 0, get_or-drop at s 1 0, add-zero at) e

pub returns : goal.returns
returns c =
    let a = c.args in
    from_there a.order a.block.now a.at _ c.joined_bytes.ensures
