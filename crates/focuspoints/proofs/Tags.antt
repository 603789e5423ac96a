-- Contents in a buffer: a block that cannot be read keeps it, of any other the count and the tags are its first five places, if it has
-- them. Assumes nothing.
use Rattle.std.specs.Prelude.{Option, Some, None}
use Prim.Native.Nat.{ℕ}
use mathlib.Core.List.{List, ◌∷◌}
use mathlib.Core.Path.{◌≡◌, refl, ap, ◌∙◌}
use lib.ListN.{length}
use Rattle.reading.specs.Outcome.{Outcome}
use Rattle.reading.specs.Contents.{laid_tags, contents_means}
use Rattle.reading.proofs.ListedTags.{unreadable_is, tags_are}
use Rattle.reading.specs.declared.ifd.TagList.{TagList}
use Rattle.focuspoints.specs.Buffer.{room_number, with_numbers}
use Rattle.focuspoints.specs.Contents.{contents_number, contents_buffer, ContentsTold}

module _ (l : List ℕ) (r : Option TagList) (x : Outcome (List ℕ)) (e : contents_means r ≡ laid_tags x) where
  pub contents_no : r ≡ None → ContentsTold x l 1 l
  unfolding contents_number contents_buffer
  contents_no f = unreadable_is (λ (y : Outcome (List ℕ)). ContentsTold y l 1 l) (refl, refl) x (rw f at e)

  pub contents_yes : (t : TagList) → r ≡ Some t → (n : ℕ) (l' : List ℕ)
      → (n ≡ room_number 5 (length l)) × (l' ≡ with_numbers 5 (t.count ∷ t.tags) l) → ContentsTold x l n l'
  unfolding contents_number contents_buffer
  contents_yes t f n l' p =
      tags_are t (λ (y : Outcome (List ℕ)). ContentsTold y l n l')
      (λ ts k. (p.0, p.1 ∙ ap (λ (y : TagList). with_numbers 5 (y.count ∷ y.tags) l) k)) x (rw f at e)
