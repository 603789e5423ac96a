-- The laws of contents. What the tags are, by induction over the directory's entries: a tag that has been met is wanted no more, so it comes
-- once, and whatever comes after it is another tag, whose first kept entry stands further on. That no other list is so, by induction over
-- two lists: with the same numbers and in the same order they begin with the same one. Assumes nothing.
use Rattle.std.specs.Prelude.{Option, Some, None}
use Prim.Native.Nat.{ℕ, zero, suc, ◌+◌, ◌≤◌, ◌<◌}
use mathlib.Core.Bool.{Bool, true, false, cond, not, ◌&&◌, ◌||◌, and-true, and-false, false≢true}
use mathlib.Core.List.{List, [], ◌∷◌}
use mathlib.Core.Logic.{⊎_elim}
use mathlib.Core.Path.{◌≡◌, refl, sym, ap, ◌∙◌}
use native.Mathlib.Nat.{zero-add}
use native.Mathlib.Omega.{arith}
use lib.Dec.{eqb}
use lib.ListN.{length, get_or}
use borrow.Author.Tests.{eqb-true, eq-eqb, not-true}
use Rattle.laws.proofs.Tests.{by_bool, by_cond, both, eqb_sym}
use Rattle.reading.specs.Block.{tag_at, is_kept_at, has_tag, entry_of, first_of, in_directory, directory_of, find_of, is_kept}
use Rattle.reading.specs.Contents.{kept_from, kept_in, kept_tags, is_among, without, first_each, four_tags, tags_of}
use Rattle.reading.specs.Laws.{places_of, EachOnce, entries_before, before_in, before_first, InDirectoryOrder, ContentsAreSo, NoOtherList, FourAtMost}
use Rattle.reading.proofs.Wanted.{equal_tags, among_without, without_fewer}
use Rattle.numbers.specs.declared.io.ByteOrder.{ByteOrder}
use Rattle.reading.specs.declared.ifd.Entry.{Entry}
use Rattle.reading.specs.declared.ifd.Ifd.{Ifd}

-- ---- four at most
few : (ws ts : List ℕ) → length (first_each ws ts) ≤ length ws
unfolding first_each
few ws [] = omega arith
few ws (t ∷ ts) =
    by_cond (λ (l : List ℕ). length l ≤ length ws) (is_among t ws)
    (λ e. omega (arith, few (without t ws) ts, without_fewer t ws e)) (λ e. few ws ts)

pub four_at_most : FourAtMost
unfolding tags_of
four_at_most o s = few four_tags (kept_tags o s)

-- ---- each once: of a list, each wanted number that stands in it
-- the first of a number counts, and what is behind it does not
counted : (q w b : Bool) (n : ℕ) → (q ≡ true → w ≡ true) → n ≡ cond (w && not q && b) 1 0 → cond q 1 0 + n ≡ cond (w && (q || b)) 1 0
counted true w b n k e = rw (e, k refl)
counted false w b n k e = rw (e, and-true w, zero-add (cond (w && b) 1 0))

-- a number that is not wanted does not count
uncounted : (q w b : Bool) → (q ≡ true → w ≡ false) → cond {A = ℕ} (w && b) 1 0 ≡ cond (w && (q || b)) 1 0
uncounted true w b k = rw (k refl)
uncounted false w b k = refl

once : (t : ℕ) (ws ts : List ℕ) → places_of t (first_each ws ts) ≡ cond (is_among t ws && is_among t ts) 1 0
unfolding places_of first_each is_among
once t ws [] = rw (and-false (is_among t ws))
once t ws (u ∷ ts) =
    by_cond (λ (l : List ℕ). places_of t l ≡ cond (is_among t ws && (eqb u t || is_among t ts)) 1 0) (is_among u ws)
    (λ e.
    counted (eqb u t) (is_among t ws) (is_among t ts) (places_of t (first_each (without u ws) ts)) (λ q. equal_tags u t ws q ∙ e)
    (once t (without u ws) ts ∙ rw (among_without t u ws)))
    (λ e. once t ws ts ∙ uncounted (eqb u t) (is_among t ws) (is_among t ts) (λ q. equal_tags u t ws q ∙ e))

-- ---- a tag stands among those of the kept entries where it has one
-- one entry further, where the entry has the tag or not and is kept or not
further : (q k : Bool) (l : List ℕ) (u t : ℕ) (e : Entry) (f : Option Entry) → q ≡ eqb u t → is_among t l ≡ is_kept f
    → is_among t (cond k (u ∷ l) l) ≡ is_kept (cond (q && k) (Some e) f)
unfolding is_among
further true true l u t e f eq i = rw (← eq)
further false true l u t e f eq i = rw (← eq) i
further true false l u t e f eq i = i
further false false l u t e f eq i = i

kept_among : (o : ByteOrder) (s : List ℕ) (t n at : ℕ) → is_among t (kept_from o s at n) ≡ is_kept (first_of o s t at n)
unfolding kept_from first_of has_tag is_among
kept_among o s t zero at = refl
kept_among o s t (suc n) at =
    further (eqb (tag_at o s at) t) (is_kept_at o s at) (kept_from o s (at + 12) n) (tag_at o s at) t (entry_of o s at) (first_of o s t (at + 12) n) refl
    (kept_among o s t n (at + 12))

kept_in_lem : (o : ByteOrder) (s : List ℕ) (t : ℕ) (d : Option Ifd) → is_among t (kept_in o s d) ≡ is_kept (in_directory o s t d)
unfolding is_among
kept_in_lem o s t (Some d) = kept_among o s t d.count d.first
kept_in_lem o s t None = refl

each_once : (o : ByteOrder) (s : List ℕ) → EachOnce o s (tags_of o s)
unfolding tags_of kept_tags find_of
each_once o s t = once t four_tags (kept_tags o s) ∙ rw (kept_in_lem o s t (directory_of o s))

-- ---- in the directory's order
-- what is found is wanted
found_wanted : (ws ts : List ℕ) (j : ℕ) → j < length (first_each ws ts) → is_among (get_or (first_each ws ts) j 0) ws ≡ true
unfolding first_each
found_wanted ws [] j h = absurd (omega arith)
found_wanted ws (t ∷ ts) j h =
    ⊎_elim
    (λ (e : is_among t ws ≡ true). rw e (head_or_behind e (found_wanted (without t ws) ts) j (rw e at h)))
    (λ (e : is_among t ws ≡ false). rw e (found_wanted ws ts j (rw e at h)))
    (by_bool (is_among t ws))
  where
    head_or_behind : is_among t ws ≡ true → ((i : ℕ) → i < length (first_each (without t ws) ts) → is_among (get_or (first_each (without t ws) ts) i 0) (without t ws) ≡ true)
        → (j : ℕ) → j < suc (length (first_each (without t ws) ts)) → is_among (get_or (t ∷ first_each (without t ws) ts) j 0) ws ≡ true
    head_or_behind e ih zero h = e
    head_or_behind e ih (suc i) h = (both _ _ (sym (among_without (get_or (first_each (without t ws) ts) i 0) t ws) ∙ ih i (omega arith))).0

-- one entry further: it is before the first kept one of a tag, or is it
module _ (o : ByteOrder) (s : List ℕ) (x at : ℕ) where
  one_before : (n : ℕ) → has_tag o s x at ≡ false → entries_before o s x at (suc n) ≡ suc (entries_before o s x (at + 12) n)
  unfolding entries_before
  one_before n e = rw e

  none_before : (n : ℕ) → has_tag o s x at ≡ true → entries_before o s x at (suc n) ≡ 0
  unfolding entries_before
  none_before n e = rw e

  not_kept : is_kept_at o s at ≡ false → has_tag o s x at ≡ false
  unfolding has_tag
  not_kept e = rw (e, and-false (eqb (tag_at o s at) x))

  other_tag : eqb (tag_at o s at) x ≡ false → has_tag o s x at ≡ false
  unfolding has_tag
  other_tag e = rw e

its_own : (o : ByteOrder) (s : List ℕ) (at : ℕ) → is_kept_at o s at ≡ true → has_tag o s (tag_at o s at) at ≡ true
unfolding has_tag
its_own o s at k = rw (k, eq-eqb (tag_at o s at) (tag_at o s at) refl)

-- a tag that is wanted without another is not that one
apart : (x u : ℕ) (ws : List ℕ) → is_among x (without u ws) ≡ true → eqb u x ≡ false
apart x u ws h = not-true (eqb u x) (both (is_among x ws) (not (eqb u x)) (sym (among_without x u ws) ∙ h)).1

-- a tag that is wanted is not one that is not
unlike : (x u : ℕ) (ws : List ℕ) → is_among x ws ≡ true → is_among u ws ≡ false → eqb u x ≡ false
unlike x u ws a b =
    ⊎_elim (λ (e : eqb u x ≡ true). absurd (false≢true (sym b ∙ (sym (equal_tags u x ws e) ∙ a)))) (λ (e : eqb u x ≡ false). e) (by_bool (eqb u x))

-- two places of a list: the first of its tags stands before the second
abbrev Rises : ByteOrder → List ℕ → List ℕ → ℕ → ℕ → Type 0
Rises o s l at n = (i j : ℕ) → i < j → j < length l → entries_before o s (get_or l i 0) at n < entries_before o s (get_or l j 0) at n

module _ (o : ByteOrder) (s l : List ℕ) (at n : ℕ) (ih : Rises o s l (at + 12) n) (away : (j : ℕ) → j < length l → has_tag o s (get_or l j 0) at ≡ false) where
  -- behind an entry that has none of the tags
  rises_on : Rises o s l at (suc n)
  rises_on i j h k =
      rw (one_before o s (get_or l i 0) at n (away i (omega arith)), one_before o s (get_or l j 0) at n (away j k))
      (let g = ih i j h k in omega arith)

  -- behind an entry that has a tag before all of them
  rises_behind : has_tag o s (tag_at o s at) at ≡ true → Rises o s (tag_at o s at ∷ l) at (suc n)
  rises_behind e zero zero h k = absurd (omega arith)
  rises_behind e zero (suc j) h k =
      rw (none_before o s (tag_at o s at) at n e, one_before o s (get_or l j 0) at n (away j (omega arith))) (omega arith)
  rises_behind e (suc i) zero h k = absurd (omega arith)
  rises_behind e (suc i) (suc j) h k = rises_on i j (omega arith) (omega arith)

rises : (o : ByteOrder) (s : List ℕ) (n at : ℕ) (ws : List ℕ) → Rises o s (first_each ws (kept_from o s at n)) at n
unfolding first_each kept_from
rises o s zero at ws = λ i j h k. absurd (omega arith)
rises o s (suc n) at ws =
    ⊎_elim
    (λ (k : is_kept_at o s at ≡ true).
    ⊎_elim
    (λ (a : is_among (tag_at o s at) ws ≡ true).
    rw (k, a)
    (rises_behind o s (first_each (without (tag_at o s at) ws) (kept_from o s (at + 12) n)) at n (rises o s n (at + 12) (without (tag_at o s at) ws))
    (λ j h.
    other_tag o s _ at (apart (get_or (first_each (without (tag_at o s at) ws) (kept_from o s (at + 12) n)) j 0) (tag_at o s at) ws (found_wanted (without (tag_at o s at) ws) (kept_from o s (at + 12) n) j h)))
    (its_own o s at k)))
    (λ (a : is_among (tag_at o s at) ws ≡ false).
    rw (k, a)
    (rises_on o s (first_each ws (kept_from o s (at + 12) n)) at n (rises o s n (at + 12) ws)
    (λ j h. other_tag o s _ at (unlike (get_or (first_each ws (kept_from o s (at + 12) n)) j 0) (tag_at o s at) ws (found_wanted ws (kept_from o s (at + 12) n) j h) a))))
    (by_bool (is_among (tag_at o s at) ws)))
    (λ (k : is_kept_at o s at ≡ false).
    rw k (rises_on o s (first_each ws (kept_from o s (at + 12) n)) at n (rises o s n (at + 12) ws) (λ j h. not_kept o s _ at k)))
    (by_bool (is_kept_at o s at))

rises_in : (o : ByteOrder) (s : List ℕ) (d : Option Ifd) (i j : ℕ) → i < j → j < length (first_each four_tags (kept_in o s d))
    → before_in o s (get_or (first_each four_tags (kept_in o s d)) i 0) d < before_in o s (get_or (first_each four_tags (kept_in o s d)) j 0) d
unfolding first_each
rises_in o s (Some d) i j h k = rises o s d.count d.first four_tags i j h k
rises_in o s None i j h k = absurd (omega arith)

in_directory_order : (o : ByteOrder) (s : List ℕ) → InDirectoryOrder o s (tags_of o s)
unfolding tags_of kept_tags before_first
in_directory_order o s i j h k = rises_in o s (directory_of o s) i j h k

pub contents_are_so : ContentsAreSo
contents_are_so o s = (each_once o s, in_directory_order o s)

-- ---- one list alone has the same numbers in such an order, whatever the order goes by
-- a number that has a place is at one
at_place : (t : ℕ) (ts : List ℕ) → 1 ≤ places_of t ts → (j : ℕ) × (j < length ts) × (get_or ts j 0 ≡ t)
unfolding places_of
at_place t [] h = absurd (omega arith)
at_place t (x ∷ xs) h =
    ⊎_elim
    (λ (e : eqb x t ≡ true). (0, omega arith, eqb-true x t e))
    (λ (e : eqb x t ≡ false).
    let p = at_place t xs (let k : 1 ≤ 0 + places_of t xs = rw e at h in omega arith) in
    (suc p.0, omega (arith, p.1), p.2))
    (by_bool (eqb x t))

first_place : (t : ℕ) (ts : List ℕ) → 1 ≤ places_of t (t ∷ ts)
unfolding places_of
first_place t ts = rw (eq-eqb t t refl) (omega arith)

module _ (key : ℕ → ℕ) where
  Sorted : List ℕ → Type 0
  Sorted ts = (i j : ℕ) → i < j → j < length ts → key (get_or ts i 0) < key (get_or ts j 0)

  -- a number that has a place behind another comes after it
  comes_after : (x t : ℕ) (xs : List ℕ) → Sorted (x ∷ xs) → eqb x t ≡ false → 1 ≤ places_of t (x ∷ xs) → key x < key t
  unfolding places_of Sorted
  comes_after x t xs r e h =
      let p = at_place t xs (let k : 1 ≤ 0 + places_of t xs = rw e at h in omega arith) in
      ap_lt (r 0 (suc p.0) (omega arith) (omega (arith, p.1))) p.2
    where
      ap_lt : {a b c : ℕ} → key a < key b → b ≡ c → key a < key c
      ap_lt h e = rw (← e) h

  tail_sorted : (x : ℕ) (xs : List ℕ) → Sorted (x ∷ xs) → Sorted xs
  unfolding Sorted
  tail_sorted x xs r i j h k = r (suc i) (suc j) (omega arith) (omega arith)

  same_list : (xs ys : List ℕ) → ((t : ℕ) → places_of t xs ≡ places_of t ys) → Sorted xs → Sorted ys → xs ≡ ys
  unfolding places_of
  same_list [] [] e r q = refl
  same_list [] (y ∷ ys) e r q = absurd (let h = first_place y ys in let f = e y in omega arith)
  same_list (x ∷ xs) [] e r q = absurd (let h = first_place x xs in let f = e x in omega arith)
  same_list (x ∷ xs) (y ∷ ys) e r q =
      ⊎_elim
      (λ (h : eqb x y ≡ true).
      let f : x ≡ y = eqb-true x y h in
      rw f
      (ap (λ (l : List ℕ). y ∷ l)
      (same_list xs ys (λ t. let g = e t in let k = ap (λ (z : ℕ). cond {A = ℕ} (eqb z t) 1 0) f in omega arith) (tail_sorted x xs r) (tail_sorted y ys q))))
      (λ (h : eqb x y ≡ false).
      let a = comes_after x y xs r h (let f = e y in let k = first_place y ys in omega arith) in
      let b = comes_after y x ys q (eqb_sym y x ∙ h) (let f = e x in let k = first_place x xs in omega arith) in
      absurd (omega arith))
      (by_bool (eqb x y))

pub no_other_list : NoOtherList
unfolding Sorted
no_other_list o s ts e q =
    same_list (before_first o s) ts (tags_of o s) (λ t. e t ∙ sym (each_once o s t)) q (in_directory_order o s)
