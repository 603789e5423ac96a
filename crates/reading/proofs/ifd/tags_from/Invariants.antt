-- `ifd::tags_from`: the loop collects the tags at the front of the places; what is left of the entries, and of the wanted tags those that
-- are missing, still decide. As each tag that is met was missing, four places are enough. Assumes nothing.
use Prim.Native.Nat.{ℕ, suc, ◌+◌, ◌*◌, ◌-◌, ◌≤◌, ◌<◌}
use mathlib.Core.Bool.{Bool, true, false, not, ◌&&◌}
use mathlib.Core.List.{List, [], ◌∷◌}
use mathlib.Core.Path.{◌≡◌, refl, sym, ◌∙◌}
use native.Mathlib.Numerals.{add-one}
use native.Mathlib.Omega.{arith}
use lib.ListN.{length, take, set}
use lib.Seq.{take-suc-set}
use Rattle.laws.proofs.Collect.{Collected, stored, finished}
use Rattle.laws.proofs.Tests.{both}
use Rattle.reading.specs.Block.{tag_at, is_kept_at}
use Rattle.reading.specs.Contents.{kept_from, is_among, without, first_each, tag_list}
use Rattle.reading.proofs.Wanted.{missing, missing_none, missing_one, among_missing, without_fewer, taken, passed, none_left}
use Rattle.numbers.specs.declared.io.ByteOrder.{ByteOrder}
use Rattle.reading.specs.declared.ifd.TagList.{TagList}
use Rattle.reading.proofs.ifd.tags_from.Given as goal

-- ---- the places after some of the entries: what is in them and what is still to come are the whole
pub record Going (o : ByteOrder) (s all wanted places : List ℕ) (met at left : ℕ) : Type 0 where
  pub collected : Collected 4 0 all places met (first_each (missing (take met places) wanted) (kept_from o s at left))
  pub room : met + length (missing (take met places) wanted) ≤ 4

module _ (o : ByteOrder) (s all wanted places : List ℕ) (met at left : ℕ) (h : 0 < left) (k : Going o s all wanted places met at left)
    (r : Bool) (er : r ≡ (is_among (tag_at o s at) wanted && not (is_among (tag_at o s at) (take met places)) && is_kept_at o s at)) where
  pub is_first_lem : r ≡ (is_among (tag_at o s at) (missing (take met places) wanted) && is_kept_at o s at)
  is_first_lem = er ∙ rw (among_missing (tag_at o s at) (take met places) wanted)

  module _ (e : r ≡ true) where
    pub first_wanted : (is_among (tag_at o s at) (missing (take met places) wanted) ≡ true) × (is_kept_at o s at ≡ true)
    first_wanted = both _ _ (sym is_first_lem ∙ e)

    pub fewer : suc (length (without (tag_at o s at) (missing (take met places) wanted))) ≤ length (missing (take met places) wanted)
    fewer = without_fewer (tag_at o s at) (missing (take met places) wanted) first_wanted.0

    pub place_left : met < 4
    place_left = omega (arith, fewer, k.room)

    pub one_more : (t : ℕ) → t ≡ tag_at o s at → Going o s all wanted (set places met t) (met + 1) (at + 12) (left - 1)
    one_more t et =
        let l : met < length places = omega (arith, k.collected.same_size, place_left) in
        let f : without (tag_at o s at) (missing (take met places) wanted) ≡ missing (take (met + 1) (set places met (tag_at o s at))) wanted =
        missing_one (tag_at o s at) (take met places) wanted ∙ rw (add-one met, take-suc-set places met (tag_at o s at) l) in
        rw et
        record {
          collected =
              rw (← f)
              (stored 4 0 all places met (tag_at o s at) (first_each (without (tag_at o s at) (missing (take met places) wanted)) (kept_from o s (at + 12) (left - 1))) place_left
              (rw (taken o s (missing (take met places) wanted) at left h first_wanted.0 first_wanted.1) at k.collected));
          room = rw (← f) (omega (arith, fewer, k.room));
        }

  pub none_more : r ≡ false → Going o s all wanted places met (at + 12) (left - 1)
  none_more e =
      record {
        collected = rw (passed o s (missing (take met places) wanted) at left h (sym is_first_lem ∙ e)) at k.collected;
        room = k.room;
      }

-- at the next index
pub next_entry : {o : ByteOrder} {s all wanted places : List ℕ} {met : ℕ} (first count i : ℕ)
    → Going o s all wanted places met (first + 12 * i + 12) (count - i - 1) → Going o s all wanted places met (first + 12 * (i + 1)) (count - (i + 1))
next_entry first count i k =
    let at : first + 12 * i + 12 ≡ first + 12 * (i + 1) = omega arith in
    let left : count - i - 1 ≡ count - (i + 1) = omega arith in
    rw (at, left) at k

pub within : {o : ByteOrder} {s all wanted places : List ℕ} {met at left : ℕ} → Going o s all wanted places met at left → met ≤ length places
within k = omega (arith, k.collected.same_size, k.collected.count_fits)

pub start : (o : ByteOrder) (s wanted : List ℕ) (at left : ℕ) → length wanted ≤ 4
    → Going o s (first_each wanted (kept_from o s at left)) wanted (0 ∷ 0 ∷ 0 ∷ 0 ∷ []) 0 at left
start o s wanted at left e =
    record {
      collected = record { same_size = refl; count_fits = omega arith; together = rw (missing_none wanted); blank_after = refl };
      room = rw (missing_none wanted) (omega arith);
    }

pub end : (o : ByteOrder) (s all wanted places : List ℕ) (met at left : ℕ) → left ≤ 0 → Going o s all wanted places met at left
    → ◌≡◌ {A = TagList} (record { count = met; tags = places }) (tag_list all)
end o s all wanted places met at left h k =
    let f = finished 4 0 all places met (rw (none_left o s (missing (take met places) wanted) at left h) at k.collected) in
    rw (f.1, ← f.0)

abbrev pub invariant-loop-i : goal.invariant-loop-i
invariant-loop-i l =
    (l.met ≤ length l.tags) × Going l.order l.block (first_each l.wanted (kept_from l.order l.block l.directory.first l.directory.count)) l.wanted l.tags l.met (l.directory.first + 12 * l.i) (l.directory.count - l.i)
