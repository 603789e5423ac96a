-- Numbers laid over a list: past its end nothing is laid, and what is laid in two goes is laid in one. Assumes nothing.
use Prim.Native.Nat.{ℕ, suc, ◌+◌, ◌≤◌}
use mathlib.Core.Path.{◌≡◌, refl}
use mathlib.Core.List.{List, [], ◌∷◌, ◌++◌}
use lib.ListN.{length, set}
use lib.Seq.{sets, set_out}
use native.Mathlib.Omega.{arith}
use native.Mathlib.Nat.{add-zero}

-- past the end nothing is laid
pub sets_past : (ts o : List ℕ) (a : ℕ) → length o ≤ a → sets o a ts ≡ o
sets_past [] o a h = refl
sets_past (t ∷ ts) o a h = rw (set_out o a t h) (sets_past ts o (suc a) (omega arith))

pub sets_append : (ts us o : List ℕ) (a : ℕ) → sets (sets o a ts) (a + length ts) us ≡ sets o a (ts ++ us)
sets_append [] us o a = rw (add-zero a)
sets_append (t ∷ ts) us o a =
    let e : a + suc (length ts) ≡ suc a + length ts = omega arith in
    rw e (sets_append ts us (set o a t) (suc a))
