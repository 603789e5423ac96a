-- The text of each answer is what the functions of `text` put: one law for each return of this crate. A listing has 39 points at the
-- most (a usable sheet's count bounds it), contents four tags, so no text is longer than 2,700 characters. Assumes nothing.
use Prim.Native.Nat.{ℕ, zero, suc, ◌-◌, ◌≤◌, min}
use mathlib.Core.List.{List, [], ◌++◌}
use mathlib.Core.Path.{◌≡◌, refl, ap, ◌∙◌}
use lib.ListN.{length, replicate, get_or-append}
use native.Mathlib.Nat.{min-eq_left}
use native.Mathlib.Omega.{arith}
use Rattle.answers.specs.Answers.{ok_text, no_text, spaced_all, tags_text, head_text, points_text}
use Rattle.text.specs.declared.Writer.{Writer}
use Rattle.text.specs.Put.{Writes, WritesUpTo}
use Rattle.text.proofs.Laws.{◌▹◌, up_to, at_most}
use Rattle.std.specs.Prelude.{Option, Some, None, Result}
use Rattle.reading.specs.Outcome.{Outcome, refused, accepted}
use Rattle.reading.specs.Contents.{contents_of, laid_tags, contents_means}
use Rattle.reading.proofs.ListedTags.{FourIn, few_listed, unreadable_is, tags_are}
use Rattle.reading.specs.declared.geometry.Size.{Size}
use Rattle.placing.specs.Focus.{focus_of}
use Rattle.calls.specs.declared.Call.{Call as Parsed}
use Rattle.calls.specs.Format.{call_of, call_means}
use Rattle.sheet.specs.declared.Sheet.{Sheet}
use Rattle.sheet.specs.declared.head.ListHead.{ListHead}
use Rattle.sheet.specs.declared.listing.ListRefusal.{ListRefusal}
use Rattle.reading.specs.declared.ifd.TagList.{TagList}
use Rattle.sheet.specs.Sheet.{load_sheet}
use Rattle.sheet.specs.Head.{head_of}
use Rattle.sheet.specs.Listing.{list_means, head_numbers}
use Rattle.sheet.specs.Lists.{list_outcome, list_buffer, fit_outcome, fit_buffer}
use Rattle.journal.specs.Journal.{Answer}
use Rattle.journal.specs.Calls.{Call, load, list, fit}
use Rattle.journal.specs.SheetCalls.{after_edit, sheet_step}
use Rattle.session.specs.Lines.{contents, asks, spelled_by, spelled_in, lent_buffer}
use Rattle.session.specs.Texts.{given_text, outcome_text, answer_text, contents_text}
use Rattle.session.specs.Answering.{most_text, Answers}

-- the first numbers of a list, with more behind it
spaced_front : (ws vs : List ℕ) (n : ℕ) → n ≤ length ws → spaced_all (ws ++ vs) n ≡ spaced_all ws n
unfolding spaced_all
spaced_front ws vs zero h = refl
spaced_front ws vs (suc n) h = rw (spaced_front ws vs n (omega arith), get_or-append ws vs 0 n (omega arith))

module _ {w w₁ : Writer} where
  -- ---- a call that gives no numbers
  pub done_ok : Writes w ok_text w₁ → WritesUpTo w (outcome_text (accepted []) []) most_text w₁
  unfolding given_text
  done_ok p = up_to p (omega arith)

  -- ---- a refused call
  pub done_no : (n : ℕ) (ws : List ℕ) → WritesUpTo w (no_text n) 14 w₁ → WritesUpTo w (outcome_text (refused n) ws) most_text w₁
  done_no n ws p = at_most p (omega arith)

  -- ---- a listing
  pub listing_text : {w₂ : Writer} (l : ListHead) (ws hs : List ℕ) → hs ≡ head_numbers l → l.count ≤ 39 → WritesUpTo w (head_text hs) 99 w₁
      → WritesUpTo w₁ (points_text ws (min l.count 39)) 2574 w₂ → WritesUpTo w (given_text (head_numbers l) ws) most_text w₂
  unfolding given_text head_of
  listing_text l ws hs e h p q = at_most (rw e at p ▹ rw (min-eq_left h) at q) (omega arith)

  -- ---- contents
  pub contents_no : (r : Option TagList) (x : Outcome (List ℕ)) → contents_means r ≡ laid_tags x → r ≡ None
      → WritesUpTo w (no_text 1) 14 w₁ → WritesUpTo w (contents_text x) most_text w₁
  unfolding contents_text
  contents_no r x e f p = unreadable_is (λ (y : Outcome (List ℕ)). WritesUpTo w (contents_text y) most_text w₁) (at_most p (omega arith)) x (rw f at e)

  pub contents_yes : (r : Option TagList) (t : TagList) (x : Outcome (List ℕ)) → contents_means r ≡ laid_tags x → FourIn x → r ≡ Some t
      → WritesUpTo w (tags_text (min t.count 4) t.tags) 60 w₁ → WritesUpTo w (contents_text x) most_text w₁
  unfolding contents_text tags_text
  contents_yes r t x e h f p =
      let g = rw f at e in
      let q = rw (min-eq_left (few_listed t x h g)) at p in
      tags_are t (λ (y : Outcome (List ℕ)). WritesUpTo w (contents_text y) most_text w₁)
      (λ ts l. at_most (rw (l, spaced_front ts (replicate (4 - length ts) 0) (length ts) (omega arith)) at q) (omega arith)) x g

-- ---- what answering leaves
module _ {w w₁ : Writer} (s : Sheet) where
  pub answered_contents : (block : List ℕ) → WritesUpTo w (contents_text (contents_of block)) most_text w₁
      → Answers s (accepted (contents block)) w w₁ s
  answered_contents block p = record { left = refl; written = p }

  pub answered_list : (x : Result ListHead ListRefusal) (z ws : List ℕ) → z ≡ lent_buffer → list_means x ≡ list_outcome s (length z) → ws ≡ list_buffer s z
      → WritesUpTo w (outcome_text (list_means x) ws) most_text w₁
      → Answers s (accepted (asks (list lent_buffer))) w w₁ s
  unfolding sheet_step
  answered_list x z ws ez ex ew p = record { left = refl; written = rw (ex, ew, ez) at p }

  pub answered_fit : (box : Size) (x : Result ListHead ListRefusal) (z ws : List ℕ) → z ≡ lent_buffer → list_means x ≡ fit_outcome s box (length z) → ws ≡ fit_buffer s box z
      → WritesUpTo w (outcome_text (list_means x) ws) most_text w₁
      → Answers s (accepted (asks (fit box lent_buffer))) w w₁ s
  unfolding sheet_step
  answered_fit box x z ws ez ex ew p = record { left = refl; written = rw (ex, ew, ez) at p }

  pub answered_load : (r : Outcome (List ℕ) × Sheet) (block model bl md : List ℕ) (raw picture : Option Size) → bl ≡ block → md ≡ model
      → r ≡ load_sheet s (focus_of bl raw picture md) → WritesUpTo w (outcome_text r.0 []) most_text w₁
      → Answers s (accepted (asks (load block raw picture model))) w w₁ r.1
  unfolding sheet_step
  answered_load r block model bl md raw picture eb em er p =
      let e : r ≡ load_sheet s (focus_of block raw picture model) = er ∙ rw (eb, em) in
      record { left = ap (λ (x : Outcome (List ℕ) × Sheet). x.1) e; written = rw (ap (λ (x : Outcome (List ℕ) × Sheet). x.0) e) at p }

  module _ {s₁ : Sheet} where
    pub answered_edit : (c : Call) (e : Outcome (List ℕ) × Sheet) → after_edit e ≡ sheet_step s c → s₁ ≡ e.1
        → WritesUpTo w (answer_text (after_edit e).0) most_text w₁ → Answers s (accepted (asks c)) w w₁ s₁
    answered_edit c e f l p = record { left = l ∙ ap (λ (x : Answer × Sheet). x.1) f; written = rw (← f) p }

    -- a line's bytes that read as a call of the code, k
    pub by_call : (b : List ℕ) (m : Option Parsed) (n k : Parsed) → m ≡ Some n → n ≡ k → call_means m ≡ call_of b
        → Answers s (spelled_by b (call_means (Some k))) w w₁ s₁ → Answers s (spelled_in b) w w₁ s₁
    unfolding spelled_in
    by_call b m n k f g e p = rw (← e, f, g) p

    pub by_none : (b : List ℕ) (m : Option Parsed) → m ≡ None → call_means m ≡ call_of b
        → Answers s (refused 14) w w₁ s₁ → Answers s (spelled_in b) w w₁ s₁
    unfolding spelled_in
    by_none b m f e p = rw (← e, f) p
