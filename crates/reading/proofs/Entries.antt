-- Laws of the search for a tag: one entry further, and that the entries of a directory lie inside its block. Assumes nothing.
use Rattle.std.specs.Prelude.{Option, Some, None}
use mathlib.Core.Path.{◌≡◌, refl, sym, ◌∙◌}
use mathlib.Core.Bool.{Bool, true, false, cond}
use mathlib.Core.List.{List}
use Prim.Native.Nat.{ℕ, zero, suc, ◌+◌, ◌*◌, ◌-◌, ◌≤◌, ◌<◌}
use native.Mathlib.Nat.{mul-le-mul}
use native.Mathlib.Numerals.{sub-one}
use native.Mathlib.Omega.{arith}
use borrow.Author.Tests.{leb-true}
use lib.ListN.{length}
use lib.Dec.{leb}
use Rattle.reading.specs.Block.{first_of, has_tag, entry_of, directory_of, offset_of, entry_count}
use Rattle.numbers.specs.declared.io.ByteOrder.{ByteOrder}
use Rattle.reading.specs.declared.ifd.Ifd.{Ifd}

module _ (o : ByteOrder) (s : List ℕ) (tag at : ℕ) where
  -- the entry at hand is the first
  pub hit : (n : ℕ) → 0 < n → has_tag o s tag at ≡ true → first_of o s tag at n ≡ Some (entry_of o s at)
  unfolding first_of
  hit zero h e = absurd (omega arith)
  hit (suc n) h e = rw e

  -- the entry at hand is passed over
  pub miss : (n : ℕ) → 0 < n → has_tag o s tag at ≡ false → first_of o s tag at n ≡ first_of o s tag (at + 12) (n - 1)
  unfolding first_of
  miss zero h e = absurd (omega arith)
  miss (suc n) h e = rw (e, sub-one)

  -- no entry is left
  pub none_left : (n : ℕ) → n ≤ 0 → first_of o s tag at n ≡ None
  unfolding first_of
  none_left zero h = refl
  none_left (suc n) h = absurd (omega arith)

-- so with the entry at an index
pub passed_over : (o : ByteOrder) (s : List ℕ) (tag first count i : ℕ) → i < count → has_tag o s tag (first + 12 * i) ≡ false
    → first_of o s tag (first + 12 * i) (count - i) ≡ first_of o s tag (first + 12 * (i + 1)) (count - (i + 1))
passed_over o s tag first count i h e =
    let at : first + 12 * i + 12 ≡ first + 12 * (i + 1) = omega arith in
    let left : count - i - 1 ≡ count - (i + 1) = omega arith in
    miss o s tag (first + 12 * i) (count - i) (omega arith) e ∙ rw (at, left)

-- a directory inside n bytes
Within : ℕ → Option Ifd → Type 0
Within n (Some d) = d.first + 12 * d.count ≤ n
Within n None = Unit {0}

guarded : (n first count : ℕ) (b : Bool) → b ≡ leb (first + 12 * count) n → Within n (cond b (Some (record { first = first; count = count })) None)
unfolding Within
guarded n first count true e = leb-true (first + 12 * count) n (sym e)
guarded n first count false e = tt

directory_within : (o : ByteOrder) (s : List ℕ) → Within (length s) (directory_of o s)
unfolding directory_of
directory_within o s = guarded (length s) (offset_of o s + 2) (entry_count o s) _ refl

-- the entries of a directory lie inside the block
pub entries_inside : (o : ByteOrder) (s : List ℕ) (d : Ifd) → directory_of o s ≡ Some d → d.first + 12 * d.count ≤ length s
unfolding Within
entries_inside o s d e = rw e at (directory_within o s)

-- a 32-bit count of values of at most a byte's size is far from 64 bits: the length of an entry's value is exact
pub product_small : (a b : ℕ) → a < 4294967296 → b < 256 → a * b < 1099511627776
product_small a b ha hb =
    let ha' : a ≤ 4294967295 = omega arith in
    let hb' : b ≤ 255 = omega arith in
    let p : a * b ≤ 4294967295 * 255 = mul-le-mul ha' hb' in
    omega arith
