-- Laws of a script's lines: those of specs/Laws.antt, each by induction along a line's characters, with what was read of the line so
-- far, then along the lines; and that the library splits a script into these lines (`first_piece`). Assumes nothing.
use Prim.Native.Nat.{ℕ, suc, ◌+◌, ◌<◌, ◌≤◌, ◌-◌, min}
use mathlib.Core.Path.{◌≡◌, refl, sym, ap, subst, ◌∙◌}
use mathlib.Core.Bool.{Bool, true, false, true≢false}
use Rattle.std.specs.Borrow.{Bor}
use Rattle.std.specs.Prelude.{Option, Some, None}
use Rattle.std.specs.Option.{MatchOption, unwrap_or}
use Rattle.std.specs.List.{AllWithin, IsFirstMatchOrLen, position_or_len}
use mathlib.Core.List.{List, [], ◌∷◌, ◌++◌, append-nil, append_assoc, flatten}
use mathlib.Core.Logic.{⊎_elim, ◌⊎◌, inl, inr}
use lib.Dec.{eqb}
use lib.ListN.{length, take, drop, get_or, length-append, get_or-append}
use lib.Seq.{take-suc, take_all, drop-append_seam}
use lib.Pointwise.{pointwise, bytes_decides}
use Rattle.std.proofs.lemmas.List.{take-append-drop}
use native.Mathlib.Omega.{arith}
use borrow.Author.Tests.{ne_eqb, eqb-true, eqb-false}
use Rattle.laws.proofs.Tests.{by_bool, by_cond, by_order}
use Rattle.script.specs.Script.{lines_from, lines_of}
use Rattle.script.specs.Inside.{IsUnfed}
use Rattle.script.specs.Laws.{NoFeed, NoFeeds, fed, EmptyScript, FedLines, LastUnfed, LinesUnfed, LinesAreScript}

-- ---- the laws of specs/Laws.antt
pub empty_script : EmptyScript
unfolding lines_from
empty_script = refl

-- behind `l`, a line and its feed
pub lines_fed : (l line s : List ℕ) → NoFeed line → lines_from l (line ++ (10 ∷ s)) ≡ (l ++ line) ∷ lines_from [] s
unfolding lines_from NoFeed
lines_fed l [] s h = rw (append-nil l)
lines_fed l (c ∷ line) s h =
    rw (ne_eqb c 10 h.0) (lines_fed (l ++ (c ∷ [])) line s h.1 ∙ rw (append_assoc l (c ∷ []) line))

-- behind `l`, a line without one
lines_last : (l line : List ℕ) → NoFeed line → 0 < length l + length line → lines_from l line ≡ (l ++ line) ∷ []
unfolding lines_from NoFeed
lines_last l [] h g = rw (ne_eqb (length l) 0 (λ e. omega arith), append-nil l)
lines_last l (c ∷ line) h g =
    rw (ne_eqb c 10 h.0)
    (lines_last (l ++ (c ∷ [])) line h.1 (omega (arith, length-append l (c ∷ []))) ∙ rw (append_assoc l (c ∷ []) line))

-- ---- how the library splits a script: up to a feed, with it, or to the end
abbrev pub is_feed : ℕ → Bool
is_feed c = eqb c 10

-- a script that is not empty starts with a line, behind what was read of it before, `l`: up to the first feed, or to the end. The rest
-- follows behind it
pub lines_first : (s l : List ℕ) → 0 < length l + length s
    → lines_from l s ≡ (l ++ take (position_or_len is_feed s) s) ∷ lines_from [] (drop (suc (position_or_len is_feed s)) s)
unfolding lines_from
lines_first [] l h = rw (ne_eqb (length l) 0 (λ e. omega arith), append-nil l)
lines_first (c ∷ s) l h =
    ⊎_elim
    (λ (e : eqb c 10 ≡ true). rw (e, append-nil l))
    (λ (e : eqb c 10 ≡ false).
    let n : 1 + position_or_len is_feed s ≡ suc (position_or_len is_feed s) = omega arith in
    rw (e, n)
    (lines_first s (l ++ (c ∷ [])) (omega (arith, length-append l (c ∷ []))) ∙ rw (append_assoc l (c ∷ []) (take (position_or_len is_feed s) s))))
    (by_bool (eqb c 10))

no_feed : (l : List ℕ) → ((k : ℕ) → k < length l → is_feed (get_or l k 0) ≡ false) → NoFeed l
unfolding NoFeed
no_feed [] h = tt
no_feed (c ∷ l) h = (eqb-false c 10 (h 0 (omega arith)), no_feed l (λ k g. h (suc k) (omega arith)))

-- behind the places before the first feed
module _ (i : ℕ) where
  unfed_front : (l t : List ℕ) → AllWithin (λ c. is_feed c ≡ false) (l ++ t) 0 i → length l ≤ i → NoFeed l
  unfed_front l t p h =
      no_feed l (λ k g.
      let q : is_feed (get_or (l ++ t) k 0) ≡ false = p k 0 (omega arith) (omega arith) in
      rw (get_or-append l t 0 k g) at q)

  fed_piece : (l t : List ℕ) → length (l ++ (10 ∷ [])) ≤ i + 1 → AllWithin (λ c. is_feed c ≡ false) ((l ++ (10 ∷ [])) ++ t) 0 i
      → lines_from [] ((l ++ (10 ∷ [])) ++ t) ≡ l ∷ lines_from [] t
  fed_piece l t h p =
      let e : (l ++ (10 ∷ [])) ++ t ≡ l ++ (10 ∷ t) = append_assoc l (10 ∷ []) t in
      rw e (lines_fed [] l t (unfed_front l (10 ∷ t) (rw e at p) (omega (arith, length-append l (10 ∷ [])))))

  last_piece : (l t : List ℕ) → NoFeed l → 0 < length (l ++ t) → length t ≡ 0 → lines_from [] (l ++ t) ≡ l ∷ lines_from [] t
  unfolding lines_from
  last_piece l [] f h z = rw (append-nil l) (lines_last [] l f (omega (arith, h, length-append l [])))
  last_piece l (c ∷ t) f h z = absurd (omega arith)

  unfed_piece : (l t : List ℕ) → length l ≡ min (i + 1) (length (l ++ t)) → 0 < length (l ++ t) → IsFirstMatchOrLen is_feed (l ++ t) i
      → ((before : List ℕ) → l ≡ before ++ (10 ∷ []) → ⊥) → lines_from [] (l ++ t) ≡ l ∷ lines_from [] t
  unfed_piece l t n h p u =
      ⊎_elim
      (λ (g : i < length (l ++ t)).
      let m : length l ≡ i + 1 = omega arith in
      let f : get_or (l ++ t) i 0 ≡ 10 = eqb-true _ 10 (p.1 g 0) in
      let d : get_or l i 0 ≡ 10 = rw (get_or-append l t 0 i (omega arith)) at f in
      let a : take (suc i) l ≡ take i l ++ (get_or l i 0 ∷ []) = take-suc l i 0 (omega arith) in
      let b : take (suc i) l ≡ l = take_all (suc i) l (omega arith) in
      absurd (u (take i l) (sym b ∙ rw d at a)))
      (λ (g : length (l ++ t) ≤ i). last_piece l t (unfed_front l t p.0 (omega (arith, length-append l t))) h (omega (arith, length-append l t)))
      (by_order i (length (l ++ t)))

pub first_piece : (s x t l : List ℕ) (i : ℕ) → s ≡ x ++ t → length x ≡ min (i + 1) (length s) → 0 < length s
    → IsFirstMatchOrLen is_feed s i → IsUnfed x l → lines_from [] s ≡ l ∷ lines_from [] t
first_piece s x t l i e n h p u =
    ⊎_elim
    (λ (g : x ≡ l ++ (10 ∷ [])). rw (e, g) (fed_piece i l t (omega (arith, ap length g, n)) (rw (e, g) at p).0))
    (λ (g : (x ≡ l) × ((before : List ℕ) → x ≡ before ++ (10 ∷ []) → ⊥)).
    rw (e, g.0) (unfed_piece i l t (rw (e, g.0) at n) (rw (e, g.0) at h) (rw (e, g.0) at p) (rw g.0 at g.1)))
    u

-- ---- a line without the feed at its end, if any, as the library strips it
module _ (s : List ℕ) where
  abbrev pub last_is_feed : Bool
  last_is_feed = pointwise eqb (drop (length s - 1) s) (10 ∷ [])

  pub stripped : (l : List ℕ) → last_is_feed ≡ true → l ≡ take (length s - 1) s → IsUnfed s l
  stripped l e f =
      let d : drop (length s - 1) s ≡ 10 ∷ [] = (bytes_decides _ _).0 e in
      inl (sym (take-append-drop (length s - 1) s) ∙ rw (d, f))

  pub not_stripped : last_is_feed ≡ false → IsUnfed s s
  not_stripped e = inr (refl, unended)
    where
      unended : (before : List ℕ) → s ≡ before ++ (10 ∷ []) → ⊥
      unended before f =
          let n : length s - 1 ≡ length before = omega (arith, ap length f, length-append before (10 ∷ [])) in
          let d : drop (length s - 1) s ≡ 10 ∷ [] = rw (n, f) (drop-append_seam before (10 ∷ [])) in
          true≢false (sym ((bytes_decides _ _).1 d) ∙ e)

  pub stripped_told : (b : Bor (List ℕ)) (r : Option (Bor (List ℕ))) → s ≡ b.now
      → MatchOption r (last_is_feed ≡ false) (λ x. (last_is_feed ≡ true) × (x.now ≡ take (length s - 1) s) × (length x.now + 1 ≡ length s))
      → IsUnfed s (unwrap_or r b).now
  stripped_told b None e h = subst (λ (u : List ℕ). IsUnfed s u) e (not_stripped h)
  stripped_told b (Some x) e h = stripped x.now h.0 h.1

-- lines with their feeds, before any script
pub lines_before : (lines : List (List ℕ)) (s : List ℕ) → NoFeeds lines → lines_of (fed lines ++ s) ≡ lines ++ lines_of s
unfolding fed flatten NoFeeds
lines_before [] s h = refl
lines_before (l ∷ ls) s h =
    rw (append_assoc (l ++ (10 ∷ [])) (fed ls) s, append_assoc l (10 ∷ []) (fed ls ++ s))
    (lines_fed [] l (fed ls ++ s) h.0 ∙ ap (λ (xs : List (List ℕ)). l ∷ xs) (lines_before ls s h.1))

pub fed_lines : FedLines
fed_lines lines h =
    ap lines_of (sym (append-nil (fed lines))) ∙
    lines_before lines [] h ∙
    ap (λ (xs : List (List ℕ)). lines ++ xs) empty_script ∙
    append-nil lines

pub last_unfed : LastUnfed
last_unfed lines line h g k =
    lines_before lines line h ∙ ap (λ (xs : List (List ℕ)). lines ++ xs) (lines_last [] line g (omega arith))

no_feed_append : (l : List ℕ) (c : ℕ) → NoFeed l → (c ≡ 10 → ⊥) → NoFeed (l ++ (c ∷ []))
unfolding NoFeed
no_feed_append [] c h g = (g, tt)
no_feed_append (d ∷ l) c h g = (h.0, no_feed_append l c h.1 g)

unfed_from : (s l : List ℕ) → NoFeed l → NoFeeds (lines_from l s)
unfolding lines_from NoFeed NoFeeds
unfed_from [] l h = by_cond NoFeeds (eqb (length l) 0) (λ e. tt) (λ e. (h, tt))
unfed_from (c ∷ s) l h =
    by_cond NoFeeds (eqb c 10) (λ e. (h, unfed_from s [] tt))
    (λ e. unfed_from s (l ++ (c ∷ [])) (no_feed_append l c h (eqb-false c 10 e)))

pub lines_unfed : LinesUnfed
unfolding NoFeed
lines_unfed script = unfed_from script [] tt

-- behind `l`, the lines with a feed after each are what was there, but for a missing last feed
fed_from : (s l : List ℕ) → (fed (lines_from l s) ≡ l ++ s) ⊎ (fed (lines_from l s) ≡ (l ++ s) ++ (10 ∷ []))
unfolding lines_from fed flatten NoFeed
fed_from [] [] = inl refl
fed_from [] (c ∷ l) = inr (ap fed (lines_last (c ∷ l) [] tt (omega arith)) ∙ append-nil (((c ∷ l) ++ []) ++ (10 ∷ [])))
fed_from (c ∷ s) l =
    ⊎_elim
    (λ (e : eqb c 10 ≡ true).
    let i : c ≡ 10 = eqb-true c 10 e in
    ⊎_elim
    (λ (g : fed (lines_from [] s) ≡ s). inl (rw (e, g, i, append_assoc l (10 ∷ []) s)))
    (λ (g : fed (lines_from [] s) ≡ s ++ (10 ∷ [])).
    inr (rw (e, g, i, append_assoc l (10 ∷ []) (s ++ (10 ∷ [])), append_assoc l (10 ∷ s) (10 ∷ []))))
    (fed_from s []))
    (λ (e : eqb c 10 ≡ false).
    rw (e, ← append_assoc l (c ∷ []) s) (fed_from s (l ++ (c ∷ []))))
    (by_bool (eqb c 10))

pub lines_are_script : LinesAreScript
lines_are_script script = fed_from script []
