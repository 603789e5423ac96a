-- A call's line spells that call, and whatever spells something is a call's line, in either case. The idea: the laws of a line's
-- characters (crate hex) and those of its bytes (crate calls), one after the other. Assumes nothing.
use Prim.Native.Nat.{ℕ, zero, suc, ◌+◌, ◌-◌, ◌≤◌}
use mathlib.Core.Bool.{true, false}
use mathlib.Core.List.{List, [], ◌∷◌}
use mathlib.Core.Logic.{◌⊎◌, inl, inr, ⊎_elim}
use mathlib.Core.Path.{◌≡◌, refl, sym, ap, ap₂, ◌∙◌}
use lib.ListN.{length, take, drop, length-append}
use native.Mathlib.Omega.{arith}
use Rattle.laws.proofs.Tests.{by_bool}
use Rattle.reading.specs.Outcome.{Outcome, refused, accepted}
use Rattle.hex_lines.specs.Hex.{well_formed, bytes_of}
use Rattle.hex_lines.specs.Laws.{AreBytes, line_of, ReadsAs}
use Rattle.hex_lines.proofs.Laws.{bytes_long, well_short}
use Rattle.hex_lines.proofs.Written.{written_is_read, either_case, read_is_bytes, read_is_written}
use Rattle.calls.specs.Format.{LineCall, line_load, line_cut, line_back, line_list, line_fit, line_contents, line_orient, model_length, model_part, block_part, contents_part, call_of, model_given, block_given}
use Rattle.calls.specs.Laws.{check_of, checked, encoded, Encodes, EncodedOrMalformed, is_malformed, is_encoded}
use Rattle.calls.proofs.Encoded.{encoded_is_read, encoded_is_bytes}
use Rattle.calls.proofs.Accepted.{bytes_from, read_is_encoded}
use Rattle.session.specs.Lines.{spelling, spelled_by, spelled_in, spelled}
use Rattle.session.specs.Laws.{LineIsRead, CaseIsIgnored, WasEncoded, LineWasEncoded}

-- ---- a call's line is read
reads_as : (line b : List ℕ) → ReadsAs line b → spelled line ≡ spelled_in b
unfolding spelled
reads_as line b r = rw (r.well_formed, r.the_bytes)

called : (b : List ℕ) (x : Outcome LineCall) → call_of b ≡ x → spelled_in b ≡ spelled_by b x
unfolding spelled_in
called b x e = ap (spelled_by b) e

some_bytes : (s : List ℕ) → 1 ≤ length (checked s)
unfolding checked
some_bytes s = omega (arith, length-append s (check_of s ∷ []))

pub line_is_read : LineIsRead
line_is_read call model block h =
    let b = encoded call model block in
    let bytes = encoded_is_bytes call model block h.encodable h.model_bytes h.block_bytes in
    let back = encoded_is_read call model block h.encodable in
    reads_as (line_of b) b (written_is_read b bytes (some_bytes _) h.short) ∙
    called b (accepted call) back.the_call ∙
    ap₂ (λ (m k : List ℕ). accepted (spelling call m k)) back.the_model back.the_block

pub case_is_ignored : CaseIsIgnored
unfolding spelled
case_is_ignored line = rw ((either_case line).same_form, (either_case line).the_bytes)

-- ---- what is read is a call's line
no_bytes : AreBytes []
no_bytes i = omega arith

bytes_to : (n : ℕ) (b : List ℕ) → AreBytes b → AreBytes (take n b)
bytes_to zero b h i = omega arith
bytes_to (suc n) [] h i = omega arith
bytes_to (suc n) (x ∷ b) h zero = h 0
bytes_to (suc n) (x ∷ b) h (suc i) = bytes_to n b (λ j. h (suc j)) i

-- the model and the block are parts of the bytes
module _ (b : List ℕ) (h : AreBytes b) where
  part : (at n : ℕ) → AreBytes (take n (drop at b))
  part at n = bytes_to n (drop at b) (bytes_from b h at)

  given_bytes : (call : LineCall) → AreBytes (model_given call b) × AreBytes (block_given call b)
  unfolding model_part block_part contents_part
  given_bytes (line_load raw picture) =
      (part 19 (model_length b), part (19 + model_length b) (length b - (20 + model_length b)))
  given_bytes (line_cut left top width height) = (no_bytes, no_bytes)
  given_bytes line_back = (no_bytes, no_bytes)
  given_bytes line_list = (no_bytes, no_bytes)
  given_bytes (line_fit box) = (no_bytes, no_bytes)
  given_bytes line_contents = (no_bytes, part 1 (length b - 2))
  given_bytes (line_orient number) = (no_bytes, no_bytes)

module _ (line b : List ℕ) (r : ReadsAs line b) where
  short_bytes : length b ≤ 2048
  short_bytes = omega (arith, bytes_long line, ap length r.the_bytes, well_short line r.well_formed)

  line_bytes : AreBytes b
  line_bytes = rw (← r.the_bytes) (read_is_bytes line)

  of_call : (call : LineCall) → call_of b ≡ accepted call → Encodes b call → WasEncoded line
  of_call call e w =
      let given = given_bytes b line_bytes call in
      record {
        call = call;
        model = model_given call b;
        block = block_given call b;
        writable = record { encodable = w.encodable; model_bytes = given.0; block_bytes = given.1; short = rw w.its_bytes short_bytes };
        its_line = read_is_written line r.well_formed ∙ ap line_of (r.the_bytes ∙ sym w.its_bytes);
        spells = reads_as line b r ∙ called b (accepted call) e;
      }

  told : (x : Outcome LineCall) → call_of b ≡ x → EncodedOrMalformed b x → (spelled line ≡ refused 14) ⊎ WasEncoded line
  told (refused n) e is_malformed = inl (reads_as line b r ∙ called b (refused 14) e)
  told (accepted call) e (is_encoded w) = inr (of_call call e w)

  was_encoded : (spelled line ≡ refused 14) ⊎ WasEncoded line
  was_encoded = told (call_of b) refl (read_is_encoded b line_bytes)

pub line_was_encoded : LineWasEncoded
unfolding spelled
line_was_encoded line =
    ⊎_elim
    (λ (e : well_formed line ≡ true). was_encoded line (bytes_of line) (record { well_formed = e; the_bytes = refl }))
    (λ (e : well_formed line ≡ false). inl (rw e))
    (by_bool (well_formed line))
