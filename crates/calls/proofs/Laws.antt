-- Laws of the format: what is read of the bytes makes the call. Assumes nothing.
use Prim.Native.Nat.{ℕ, ◌≤◌}
use mathlib.Core.Path.{◌≡◌}
use mathlib.Core.List.{List}
use lib.ListN.{length, drop}
use lib.Seq.{drop-drop}
use borrow.Author.Tests.{le-leb}
use Rattle.reading.specs.Outcome.{Outcome, accepted}
use Rattle.reading.specs.declared.geometry.Size.{Size}
use Rattle.calls.specs.Format.{LineCall, line_cut, line_fit, line_contents, u32_at, sides_at, of_length, cut_call, fit_call, contents_call}

pub two_sides : (b t : List ℕ) (at w h : ℕ) → w ≡ u32_at b at → t ≡ drop at b → h ≡ u32_at t 4
    → ◌≡◌ {A = Size} record { width = w; height = h } (sides_at b at)
unfolding sides_at
two_sides b t at w h ew et eh = rw (← ew, ← drop-drop 4 at b, ← et, ← eh)

pub cut : (b : List ℕ) (l t w h : ℕ) (r : Outcome LineCall) → l ≡ u32_at b 1 → t ≡ u32_at b 5 → w ≡ u32_at b 9 → h ≡ u32_at b 13
    → r ≡ of_length 18 b (accepted (line_cut l t w h)) → r ≡ cut_call b
unfolding cut_call
cut b l t w h r el et ew eh er = rw (← el, ← et, ← ew, ← eh) er

pub fit : (b : List ℕ) (s : Size) (r : Outcome LineCall) → s ≡ sides_at b 1 → r ≡ of_length 10 b (accepted (line_fit s)) → r ≡ fit_call b
unfolding fit_call
fit b s r es er = rw (← es) er

pub contents_yes : (b : List ℕ) → 2 ≤ length b → accepted line_contents ≡ contents_call b
unfolding contents_call
contents_yes b h = rw (le-leb 2 (length b) h)
