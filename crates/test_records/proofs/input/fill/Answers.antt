-- What one more read put behind the front is what it consumed.
use Rattle.std.proofs.Common.{length, ◌+◌, ◌-◌, ◌≤◌, ◌≡◌, ◌++◌, List, ℕ, take, drop, sym, ap, subst, ◌∙◌, rules, le_refl, drop_at, length-take-le}
use Rattle.std.specs.Io.KnownBytes.{Consumes}
use Rattle.std.proofs.KnownBytes.{Consumes-trans}
use Rattle.std.proofs.lemmas.Slice.{take-put_mid_below}
use borrow.Rule.Slice.PartMut.{put_mid, post_of}
use lib.Seq.{take-add, take-append-le}
use Rattle.test_records.proofs.input.fill.Goals as goal

drop-put_mid : (a k n : ℕ) (xs ys : List ℕ) → a ≤ length xs → n ≤ length ys → take n (drop a (put_mid a k xs ys)) ≡ take n ys
drop-put_mid a k n xs ys within fits =
    let after = post_of a k xs in
    ap (take n) (drop_at (take a xs) (ys ++ after) a (length-take-le a xs within)) ∙ take-append-le n ys after fits

pub loop-done-preserved : goal.loop-done-preserved
loop-done-preserved g c =
    let at = c.loop-done.done in
    let n = c.in_ok-n.n in
    let old = c.loop-done.buffer in
    let within = c.loop-done.invariant.0 in
    let part = drop-put_mid at (length old - at) n old c.read.new.buf within c.in_ok-n.ensures.bound.0 in
    let front = take-put_mid_below _ _ _ _ _ (le_refl _) within in
    let joined : take (at + n) (put_mid at (length old - at) old c.read.new.buf) ≡ take at old ++ take n c.read.new.buf =
    take-add at n (put_mid at (length old - at) old c.read.new.buf) ∙ ap (λ l. l ++ take n (drop at (put_mid at (length old - at) old c.read.new.buf))) front ∙ ap (λ l. take at old ++ l) part in
    (search rules, subst (Consumes _ _) (sym joined) (Consumes-trans _ _ _ _ _ c.loop-done.invariant.1 c.in_ok-n.ensures.bytes.0))
