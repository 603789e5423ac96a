-- What is listed, in the words of demand 3: carrying a point is a test, that it fits inside every cut, and a place; so the listing
-- is the load's points, filtered and placed. The primary stands in it after those before it. Assumes nothing.
use Rattle.std.specs.Prelude.{Some, None}
use Prim.Native.Nat.{suc, ◌*◌, ◌<◌}
use mathlib.Core.Bool.{Bool, true, false, ◌&&◌, cond}
use mathlib.Core.List.{List, [], ◌∷◌, ◌++◌, map}
use mathlib.Core.Path.{◌≡◌, refl, sym, ap, ◌∙◌}
use lib.ListN.{get_or, length, take, drop, length-append}
use lib.Seq.{split_at, take-append_seam, get_or-append_seam}
use native.Mathlib.Omega.{arith}
use borrow.Author.Tests.{le-ltb}
use Rattle.reading.specs.declared.geometry.Size.{Size}
use Rattle.placing.specs.declared.focus.FocusPoint.{FocusPoint}
use Rattle.placing.specs.Load.{Focus, no_point}
use Rattle.journal.specs.Journal.{Change, holds, frame_by, point_by, stays_listed, carried, still_listed, if_listed, listed, present_frame, listing, primary_of, primary_after, written, journal_list}
use Rattle.journal.specs.Calls.{list, journal_step}
use Rattle.journal.specs.Claim.{place_after, fits_every_cut, filtered, shown_of, shown, ListingIsShown, ListsExactly, PrimaryListed, PrimaryIsListed, ListedFits}
use Rattle.journal.proofs.Carry.{carried_none, listed_append}
use Rattle.journal.proofs.Answers.{answered}
use Rattle.journal.proofs.Holds.{right, listed_fits, fits_at}

pub carried_is : (f : Size) (row : List Change) (p : FocusPoint)
    → carried f (Some p) row ≡ cond (fits_every_cut f row p) (Some (place_after f row p)) None
unfolding carried fits_every_cut place_after
carried_is f [] p = refl
carried_is f (c ∷ row) p = by (stays_listed c f p) (carried_is (frame_by c f) row (point_by c f p))
  where
    by : (b : Bool) → carried (frame_by c f) (Some (point_by c f p)) row
        ≡ cond (fits_every_cut (frame_by c f) row (point_by c f p)) (Some (place_after (frame_by c f) row (point_by c f p))) None
        → carried (frame_by c f) (cond b (Some (point_by c f p)) None) row
        ≡ cond (b && fits_every_cut (frame_by c f) row (point_by c f p)) (Some (place_after (frame_by c f) row (point_by c f p))) None
    by true e = e
    by false e = carried_none (frame_by c f) row

listed_is : (f : Focus) (row : List Change) (ps : List FocusPoint) → listed f.frame row ps ≡ shown_of f row ps
unfolding listed shown_of filtered
listed_is f row [] = refl
listed_is f row (p ∷ ps) = rw (carried_is f.frame row p) (by (fits_every_cut f.frame row p) (listed_is f row ps))
  where
    by : (b : Bool) → listed f.frame row ps ≡ map (place_after f.frame row) (filtered (fits_every_cut f.frame row) ps)
        → if_listed (cond b (Some (place_after f.frame row p)) None) ++ listed f.frame row ps
        ≡ map (place_after f.frame row) (cond b (p ∷ filtered (fits_every_cut f.frame row) ps) (filtered (fits_every_cut f.frame row) ps))
    by true e = ap (λ (l : List FocusPoint). place_after f.frame row p ∷ l) e
    by false e = e

pub listing_is_shown : ListingIsShown
listing_is_shown f row = (listed_is f row f.points, ap length (listed_is f row (take f.primary f.points)))

pub lists_exactly : ListsExactly
unfolding journal_step journal_list written
lists_exactly calls f row e b l =
    answered calls (holds f row) (list b) e
    ∙ rw (listed_is f row f.points, le-ltb (length b) (6 * length (shown f row)) l)

-- ---- the primary
-- the listing: those before the primary, the primary if it is listed, those after it
listing_split : (f : Focus) (row : List Change) → f.primary < length f.points
    → listing f row
    ≡ listed f.frame row (take f.primary f.points)
    ++ (if_listed (primary_after f row) ++ listed f.frame row (drop (suc f.primary) f.points))
unfolding listed
listing_split f row l =
    ap (listed f.frame row) (split_at f.points f.primary no_point l)
    ∙ listed_append f.frame row (take f.primary f.points) (primary_of f ∷ drop (suc f.primary) f.points)

-- a list with one element between two parts
module _ (xs ys ps : List FocusPoint) (q : FocusPoint) (e : ps ≡ xs ++ (q ∷ ys)) where
  seam_in : length xs < length ps
  seam_in = rw e (rw length-append (omega arith))

  seam_before : take (length xs) ps ≡ xs
  seam_before = rw e (take-append_seam xs (q ∷ ys))

  seam_at : get_or ps (length xs) no_point ≡ q
  seam_at = rw e (get_or-append_seam xs q ys no_point)

primary_in : (f : Focus) (row : List Change) → f.primary < length f.points → still_listed (primary_after f row) ≡ true → PrimaryListed f row
primary_in f row l h =
    let inside = listed_told (fits_every_cut f.frame row (primary_of f)) (rw (carried_is f.frame row (primary_of f)) at h) in
    let q = place_after f.frame row (primary_of f) in
    let rest = listed f.frame row (drop (suc f.primary) f.points) in
    let there : primary_after f row ≡ Some q = rw (carried_is f.frame row (primary_of f), inside) in
    let parts : shown f row ≡ listed f.frame row (take f.primary f.points) ++ (q ∷ rest) =
    sym (listed_is f row f.points) ∙ listing_split f row l ∙ rw there in
    let before = listed f.frame row (take f.primary f.points) in
    record {
      in_listing = seam_in before rest (shown f row) q parts;
      before_it = seam_before before rest (shown f row) q parts ∙ listed_is f row (take f.primary f.points);
      at_index = seam_at before rest (shown f row) q parts;
      in_every_cut = inside;
    }
  where
    listed_told : (b : Bool) → still_listed (cond b (Some (place_after f.frame row (primary_of f))) None) ≡ true → b ≡ true
    listed_told true e = refl
    listed_told false e = e

pub primary_is_listed : PrimaryIsListed
primary_is_listed calls f row e = let r = right calls f row e in primary_in f row r.sound.primary_in r.primary

pub listed_fits_frame : ListedFits
listed_fits_frame calls f row e i l =
    let r = right calls f row e in
    let s = listed_is f row f.points in
    rw (← s)
    (fits_at (present_frame f row) (listing f row) i (listed_fits f.frame row f.points r.sound.fit) (rw s l))
