-- What is encoded is read back, and is bytes. The idea: the code, the flags and the numbers stand at fixed places, so what is read
-- there computes; a number's four bytes give the number back, and the model and the block lie between them and the check. Assumes
-- nothing.
use Rattle.std.specs.Prelude.{Option, Some, None}
use Prim.Native.Nat.{ℕ, zero, suc, ◌<◌, ◌≤◌, ◌+◌, ◌*◌, ◌-◌, ◌/◌, ◌%◌}
use mathlib.Core.Bool.{true}
use mathlib.Core.List.{List, [], ◌∷◌, ◌++◌, append_assoc}
use mathlib.Core.Path.{◌≡◌, refl, sym, ap, ◌∙◌}
use lib.Dec.{leb, eqb}
use lib.ListN.{length, get_or, drop, length-append}
use lib.Seq.{take-append_seam, drop-append_seam, drop-drop}
use native.Mathlib.Omega.{arith}
use borrow.Author.Tests.{le-leb, leb-true, eq-eqb}
use Rattle.numbers.specs.Numbers.{u16_of, u32_of}
use Rattle.numbers.specs.declared.io.ByteOrder.TheVariants.{Big}
use Rattle.reading.specs.Outcome.{Outcome, accepted}
use Rattle.reading.specs.declared.geometry.Size.{Size}
use Rattle.hex_lines.specs.Hex.{sum, checks}
use Rattle.hex_lines.specs.Laws.{AreBytes}
use Rattle.calls.specs.Format.{LineCall, line_load, line_cut, line_back, line_list, line_fit, line_contents, line_orient, of_length, sides_at, flags, model_length, sides_agree, optional, well_formed_load, load_call, orient_call, by_code, call_of, model_part, block_part, contents_part}
use Rattle.calls.specs.Laws.{four_bytes, size_bytes, is_given, flag_byte, sides_of, body, check_of, checked, encoded, Number, SizeNumbers, Encodable, ReadBack, EncodedIsRead, EncodedIsBytes}
use Rattle.calls.proofs.Laws as laws

-- ---- the check
pub sum_append : (xs ys : List ℕ) → sum (xs ++ ys) ≡ sum xs + sum ys
unfolding sum
sum_append [] ys = omega arith
sum_append (x ∷ xs) ys = omega (arith, sum_append xs ys)

pub sum_snoc : (xs : List ℕ) (y : ℕ) → sum (xs ++ y ∷ []) ≡ sum xs + y
unfolding sum
sum_snoc xs y = omega (arith, sum_append xs (y ∷ []))

check_right : (s : List ℕ) → checks (checked s) ≡ true
unfolding checked check_of
check_right s = eq-eqb (sum (s ++ check_of s ∷ []) % 256) 0 (omega (arith, sum_snoc s (check_of s)))

-- an encoded line is read by its code
by_its_code : (s : List ℕ) (x : Outcome LineCall) → by_code (get_or (checked s) 0 0) (checked s) ≡ x → call_of (checked s) ≡ x
unfolding call_of
by_its_code s x e = rw (check_right s) e

-- ---- numbers
pub digits_256 : (n : ℕ) → (n / 65536 ≡ n / 256 / 256) × (n / 16777216 ≡ n / 256 / 256 / 256)
digits_256 n = (omega arith, omega arith)

joined : (n q p o c b a : ℕ) → n ≡ 256 * q + c → q ≡ 256 * p + b → p ≡ 256 * o + a
    → 65536 * (256 * o + a) + (256 * b + c) ≡ n
joined n q p o c b a e f g = omega arith

number_back : (n : ℕ) (r : List ℕ) → Number n → u32_of Big (four_bytes n ++ r) ≡ n
unfolding u32_of u16_of four_bytes
number_back n r h =
    let e : n / 256 / 256 / 256 % 256 ≡ n / 256 / 256 / 256 = omega arith in
    rw ((digits_256 n).0, (digits_256 n).1, e)
    (joined n (n / 256) (n / 256 / 256) (n / 256 / 256 / 256) (n % 256) (n / 256 % 256) (n / 256 / 256 % 256)
    (omega arith) (omega arith) (omega arith))

size_back : (b : List ℕ) (at : ℕ) (s : Size) (r : List ℕ) → SizeNumbers s → drop at b ≡ size_bytes s ++ r → s ≡ sides_at b at
unfolding four_bytes
size_back b at s r h e =
    laws.two_sides b (drop at b) at s.width s.height
    (sym (ap (u32_of Big) e ∙ number_back s.width (four_bytes s.height ++ r) h.0))
    refl
    (sym (ap (λ (l : List ℕ). u32_of Big (drop 4 l)) e ∙ number_back s.height r h.1))

-- ---- calls of a fixed length
two_bytes : (k : ℕ) (x : LineCall) → ((b : List ℕ) → by_code k b ≡ of_length 2 b (accepted x)) → call_of (checked (k ∷ [])) ≡ accepted x
unfolding checked
two_bytes k x e = by_its_code (k ∷ []) (accepted x) (e (k ∷ check_of (k ∷ []) ∷ []))

module _ (left top width height : ℕ) (hl : Number left) (ht : Number top) (hw : Number width) (hh : Number height) where
  cut_back : call_of (encoded (line_cut left top width height) [] []) ≡ accepted (line_cut left top width height)
  unfolding body checked by_code four_bytes
  cut_back =
      let s = body (line_cut left top width height) [] [] in
      let z : List ℕ = check_of s ∷ [] in
      by_its_code s (accepted (line_cut left top width height))
      (sym (laws.cut (checked s) left top width height (accepted (line_cut left top width height))
      (sym (number_back left (four_bytes top ++ four_bytes width ++ four_bytes height ++ z) hl))
      (sym (number_back top (four_bytes width ++ four_bytes height ++ z) ht))
      (sym (number_back width (four_bytes height ++ z) hw))
      (sym (number_back height z hh))
      refl))

fit_back : (s : Size) → SizeNumbers s → call_of (encoded (line_fit s) [] []) ≡ accepted (line_fit s)
unfolding body checked by_code four_bytes
fit_back s h =
    let t = body (line_fit s) [] [] in
    by_its_code t (accepted (line_fit s)) (sym (laws.fit (checked t) s (accepted (line_fit s)) (size_back (checked t) 1 s (check_of t ∷ []) h refl) refl))

orient_back : (n : ℕ) → call_of (encoded (line_orient n) [] []) ≡ accepted (line_orient n)
unfolding body checked by_code orient_call
orient_back n = by_its_code (9 ∷ n ∷ []) (accepted (line_orient n)) refl

-- ---- contents
module _ (k : List ℕ) where
  contents_back : call_of (encoded line_contents [] k) ≡ accepted line_contents
  unfolding body checked by_code
  contents_back =
      by_its_code (8 ∷ k) (accepted line_contents)
      (sym (laws.contents_yes (checked (8 ∷ k)) (omega (arith, length-append k (check_of (8 ∷ k) ∷ [])))))

  contents_part_lem : (c : ℕ) → contents_part (8 ∷ k ++ c ∷ []) ≡ k
  unfolding contents_part
  contents_part_lem c =
      let e : length (8 ∷ k ++ c ∷ []) - 2 ≡ length k = omega (arith, length-append k (c ∷ [])) in
      rw e (take-append_seam k (c ∷ []))

-- ---- a load
-- its flags and sizes give its sizes back
sizes_agree : (o : Option Size) → sides_agree (is_given o) (sides_of o) ≡ true
unfolding sides_agree
sizes_agree None = refl
sizes_agree (Some s) = refl

size_again : (o : Option Size) → optional (is_given o) (sides_of o) ≡ o
unfolding optional
size_again None = refl
size_again (Some s) = refl

flags_few : (o p : Option Size) → leb (flag_byte o p) 3 ≡ true
flags_few None None = refl
flags_few None (Some t) = refl
flags_few (Some s) None = refl
flags_few (Some s) (Some t) = refl

flag_raw : (o p : Option Size) → eqb (flag_byte o p % 2) 1 ≡ is_given o
flag_raw None None = refl
flag_raw None (Some t) = refl
flag_raw (Some s) None = refl
flag_raw (Some s) (Some t) = refl

flag_picture : (o p : Option Size) → eqb (flag_byte o p / 2 % 2) 1 ≡ is_given p
flag_picture None None = refl
flag_picture None (Some t) = refl
flag_picture (Some s) None = refl
flag_picture (Some s) (Some t) = refl

load_of : (b : List ℕ) (o p : Option Size) → 20 + model_length b ≤ length b → flags b ≡ flag_byte o p → sides_at b 2 ≡ sides_of o → sides_at b 10 ≡ sides_of p
    → load_call b ≡ accepted (line_load o p)
unfolding load_call well_formed_load
load_of b o p l f s t =
    rw (
      le-leb (20 + model_length b) (length b) l,
      f,
      s,
      t,
      flags_few o p,
      flag_raw o p,
      flag_picture o p,
      sizes_agree o,
      sizes_agree p,
      size_again o,
      size_again p,
    )

-- its model and block, with anything for the check
module _ (f : ℕ) (s t : Size) (m k : List ℕ) (c : ℕ) where
  abbrev line : List ℕ
  line = (1 ∷ f ∷ [] ++ size_bytes s ++ size_bytes t ++ length m ∷ [] ++ m ++ k) ++ c ∷ []

  past_sizes : drop 19 line ≡ m ++ (k ++ c ∷ [])
  unfolding four_bytes
  past_sizes = append_assoc m k (c ∷ [])

  line_long : length line ≡ 20 + length m + length k
  unfolding four_bytes
  line_long = omega (arith, length-append (m ++ k) (c ∷ []), length-append m k)

  model_length_lem : get_or line 18 0 ≡ length m
  unfolding four_bytes
  model_length_lem = refl

  load_model : model_part line ≡ m
  unfolding model_part
  load_model = rw (model_length_lem, past_sizes) (take-append_seam m (k ++ c ∷ []))

  past_model : drop (19 + length m) line ≡ k ++ c ∷ []
  past_model = sym (drop-drop (length m) 19 line) ∙ rw past_sizes (drop-append_seam m (k ++ c ∷ []))

  load_block : block_part line ≡ k
  unfolding block_part
  load_block =
      let e : length line - (20 + length m) ≡ length k = omega (arith, line_long) in
      rw (model_length_lem, past_model, e) (take-append_seam k (c ∷ []))

  -- its flags and sizes
  the_flags : get_or line 1 0 ≡ f
  unfolding four_bytes
  the_flags = refl

  first_size : SizeNumbers s → sides_at line 2 ≡ s
  unfolding four_bytes
  first_size h = sym (size_back line 2 s (size_bytes t ++ length m ∷ [] ++ m ++ k ++ c ∷ []) h refl)

  second_size : SizeNumbers t → sides_at line 10 ≡ t
  unfolding four_bytes
  second_size h = sym (size_back line 10 t (length m ∷ [] ++ m ++ k ++ c ∷ []) h refl)

  line_load_lem : (o p : Option Size) → f ≡ flag_byte o p → s ≡ sides_of o → t ≡ sides_of p → SizeNumbers s → SizeNumbers t → load_call line ≡ accepted (line_load o p)
  line_load_lem o p ef es et hs ht =
      load_of line o p (omega (arith, model_length_lem, line_long)) (the_flags ∙ ef) (first_size hs ∙ es) (second_size ht ∙ et)

load_back : (o p : Option Size) (m k : List ℕ) → SizeNumbers (sides_of o) → SizeNumbers (sides_of p)
    → ReadBack (line_load o p) m k (encoded (line_load o p) m k)
unfolding body checked by_code
load_back o p m k ho hp =
    let s = body (line_load o p) m k in
    record {
      the_call = by_its_code s (accepted (line_load o p)) (line_load_lem (flag_byte o p) (sides_of o) (sides_of p) m k (check_of s) o p refl refl refl ho hp);
      the_model = load_model (flag_byte o p) (sides_of o) (sides_of p) m k (check_of s);
      the_block = load_block (flag_byte o p) (sides_of o) (sides_of p) m k (check_of s);
    }

-- ---- every call
pub encoded_is_read : EncodedIsRead
unfolding body checked by_code
encoded_is_read (line_load o p) m k h = load_back o p m k h.0 h.1
encoded_is_read (line_cut left top width height) m k h =
    record {
      the_call = cut_back left top width height h.0 h.1 h.2 h.3;
      the_model = sym h.4.0;
      the_block = sym h.4.1;
    }
encoded_is_read line_back m k h =
    record { the_call = two_bytes 5 line_back (λ b. refl); the_model = sym h.0; the_block = sym h.1 }
encoded_is_read line_list m k h =
    record { the_call = two_bytes 6 line_list (λ b. refl); the_model = sym h.0; the_block = sym h.1 }
encoded_is_read (line_fit s) m k h =
    record { the_call = fit_back s h.0; the_model = sym h.1.0; the_block = sym h.1.1 }
encoded_is_read line_contents m k h =
    record {
      the_call = contents_back k;
      the_model = sym h;
      the_block = contents_part_lem k (check_of (8 ∷ k));
    }
encoded_is_read (line_orient n) m k h =
    record { the_call = orient_back n; the_model = sym h.1.0; the_block = sym h.1.1 }

-- ---- bytes
record All (b : List ℕ) : Type 0 where
  pub each : AreBytes b

bytes_cons : (x : ℕ) (xs : List ℕ) → x < 256 → All xs → All (x ∷ xs)
bytes_cons x xs h g = record { each = each_cons }
  where
    each_cons : AreBytes (x ∷ xs)
    each_cons zero = h
    each_cons (suc i) = g.each i

bytes_append : (xs ys : List ℕ) → All xs → All ys → All (xs ++ ys)
bytes_append [] ys h g = g
bytes_append (x ∷ xs) ys h g =
    bytes_cons x (xs ++ ys) (h.each 0) (bytes_append xs ys (record { each = λ i. h.each (suc i) }) g)

one_byte : (x : ℕ) → x < 256 → All (x ∷ [])
one_byte x h = bytes_cons x [] h (record { each = λ i. omega arith })

bytes_four : (n : ℕ) → All (four_bytes n)
unfolding four_bytes
bytes_four n =
    bytes_cons (n / 16777216 % 256) _ (omega arith)
    (bytes_cons (n / 65536 % 256) _ (omega arith) (bytes_cons (n / 256 % 256) _ (omega arith) (one_byte (n % 256) (omega arith))))

bytes_size : (s : Size) → All (size_bytes s)
bytes_size s = bytes_append _ _ (bytes_four s.width) (bytes_four s.height)

bytes_checked : (s : List ℕ) → All s → All (checked s)
unfolding checked check_of
bytes_checked s h = bytes_append s _ h (one_byte (check_of s) (omega arith))

all_bytes : (x : LineCall) (m k : List ℕ) → Encodable x m k → All m → All k → All (encoded x m k)
unfolding body
all_bytes (line_load o p) m k h hm hk =
    bytes_checked _
    (bytes_append _ _
    (bytes_append _ _
    (bytes_append _ _
    (bytes_append _ _
    (bytes_append _ _
    (bytes_cons 1 _ (omega arith) (one_byte (flag_byte o p) (omega (arith, leb-true (flag_byte o p) 3 (flags_few o p)))))
    (bytes_size (sides_of o)))
    (bytes_size (sides_of p)))
    (one_byte (length m) h.2))
    hm)
    hk)
all_bytes (line_cut left top width height) m k h hm hk =
    bytes_checked _
    (bytes_append _ _
    (bytes_append _ _
    (bytes_append _ _ (bytes_append _ _ (one_byte 2 (omega arith)) (bytes_four left)) (bytes_four top))
    (bytes_four width))
    (bytes_four height))
all_bytes line_back m k h hm hk = bytes_checked _ (one_byte 5 (omega arith))
all_bytes line_list m k h hm hk = bytes_checked _ (one_byte 6 (omega arith))
all_bytes (line_fit s) m k h hm hk = bytes_checked _ (bytes_append _ _ (one_byte 7 (omega arith)) (bytes_size s))
all_bytes line_contents m k h hm hk = bytes_checked _ (bytes_append _ _ (one_byte 8 (omega arith)) hk)
all_bytes (line_orient n) m k h hm hk = bytes_checked _ (bytes_cons 9 _ (omega arith) (one_byte n h.0))

pub encoded_is_bytes : EncodedIsBytes
encoded_is_bytes x m k h hm hk = (all_bytes x m k h (record { each = hm }) (record { each = hk })).each
