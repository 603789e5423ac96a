-- What a decoded line spells, and that nothing past 4,097 characters of a line changes it. Assumes nothing.
use Prim.Native.Nat.{ℕ, ◌+◌, ◌/◌, ◌<◌, ◌≤◌}
use mathlib.Core.List.{List}
use mathlib.Core.Path.{◌≡◌, sym, ap, ◌∙◌}
use mathlib.Core.Logic.{⊎_elim}
use mathlib.Core.Bool.{true, false}
use lib.ListN.{length, take, drop}
use lib.Seq.{sets, sets-eq, length-sets, take_at, take_all, length-take-le}
use native.Mathlib.Omega.{arith}
use Rattle.laws.proofs.Tests.{by_bool, by_order}
use Rattle.reading.specs.Outcome.{Outcome, refused, accepted}
use Rattle.hex_lines.specs.Hex.{well_formed, bytes_of, decoded_of, decoded_means, buffer_of}
use Rattle.std.specs.Prelude.{Option, Some, None}
use Rattle.hex_lines.proofs.Laws.{bytes_long, well_over, well_short}
use Rattle.session.specs.Lines.{spelled, spelled_in}

-- a line that decodes to d, its bytes laid over z
module _ (line z z₁ : List ℕ) (d : Option ℕ) (ed : decoded_means d ≡ decoded_of line) (ez : z₁ ≡ buffer_of line z) (lz : 2048 ≡ length z) where
  pub line_bad : d ≡ None → spelled line ≡ refused 14
  unfolding decoded_of spelled
  line_bad m =
      ⊎_elim
      (λ (e : well_formed line ≡ true).
      let k : ◌≡◌ {A = Outcome ℕ} (refused 14) (accepted (length line / 2)) = ap decoded_means (sym m) ∙ ed ∙ rw e in
      let y : ◌≡◌ {A = ℕ} 0 1 = cc in
      absurd (omega arith))
      (λ (e : well_formed line ≡ false). rw e)
      (by_bool (well_formed line))

  module _ (n : ℕ) (m : d ≡ Some n) where
    well : well_formed line ≡ true
    unfolding decoded_of
    well =
        ⊎_elim
        (λ (e : well_formed line ≡ true). e)
        (λ (e : well_formed line ≡ false).
        let k : ◌≡◌ {A = Outcome ℕ} (accepted n) (refused 14) = ap decoded_means (sym m) ∙ ed ∙ rw e in
        let y : ◌≡◌ {A = ℕ} 0 1 = cc in
        absurd (omega arith))
        (by_bool (well_formed line))

    half : n ≡ length line / 2
    unfolding decoded_of
    half = let k : ◌≡◌ {A = Outcome ℕ} (accepted n) (accepted (length line / 2)) = ap decoded_means (sym m) ∙ ed ∙ rw well in cc

    laid : z₁ ≡ sets z 0 (bytes_of line)
    unfolding buffer_of
    laid = ez ∙ rw well

    pub line_room_lem : n ≤ length z₁
    line_room_lem = omega (arith, half, well_short line well, ap length laid, length-sets z 0 (bytes_of line))

    line_bytes : take n z₁ ≡ bytes_of line
    line_bytes =
        let f : 0 + length (bytes_of line) ≤ length z = omega (arith, bytes_long line, well_short line well) in
        rw (
          laid,
          sets-eq (bytes_of line) z 0 f,
          take_at (bytes_of line) (drop (0 + length (bytes_of line)) z) n (bytes_long line ∙ sym half),
        )

    pub line_good : spelled_in (take n z₁) ≡ spelled line
    unfolding spelled
    line_good = rw (well, line_bytes)

-- an overlong line is malformed
pub overlong : (line : List ℕ) → 4096 < length line → spelled line ≡ refused 14
unfolding spelled
overlong line h = rw (well_over line h)

-- nothing past 4,097 characters of a line changes what it spells
pub line_cut_lem : (line : List ℕ) → spelled (take 4097 line) ≡ spelled line
line_cut_lem line =
    ⊎_elim
    (λ (h : length line < 4098). rw (take_all 4097 line (omega arith)))
    (λ (h : 4098 ≤ length line).
    rw (overlong line (omega arith), overlong (take 4097 line) (omega (arith, length-take-le 4097 line (omega arith)))))
    (by_order (length line) 4098)
