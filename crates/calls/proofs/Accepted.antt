-- What is read was encoded so. The idea: a line's bytes are the parts at the format's places, one after another, and a check; four
-- bytes are the bytes of the number that they say, and a byte is the check where the sum is 0. Assumes nothing.
use Prim.Native.Nat.{ℕ, zero, suc, ◌+◌, ◌*◌, ◌-◌, ◌/◌, ◌%◌, ◌<◌, ◌≤◌}
use mathlib.Core.Bool.{Bool, true, false, cond}
use mathlib.Core.List.{List, [], ◌∷◌, ◌++◌}
use mathlib.Core.Path.{◌≡◌, refl, sym, ap, ◌∙◌}
use lib.Dec.{leb, eqb}
use lib.ListN.{length, get_or, take, drop, length-drop}
use lib.Seq.{take-suc, take_all, take-add, drop-drop, get_or-drop, length-take-le}
use native.Mathlib.Omega.{arith}
use native.Mathlib.Nat.{add-zero}
use borrow.Author.Tests.{leb-true, eqb-true}
use Rattle.numbers.specs.Numbers.{u16_of, u32_of}
use Rattle.numbers.specs.declared.io.ByteOrder.TheVariants.{Big}
use Rattle.reading.specs.Outcome.{Outcome, refused, accepted}
use Rattle.reading.specs.declared.geometry.Size.{Size}
use Rattle.laws.proofs.Tests.{by_cond, both}
use Rattle.hex_lines.specs.Hex.{sum, checks}
use Rattle.hex_lines.specs.Laws.{AreBytes}
use Rattle.calls.specs.Format.{LineCall, line_load, line_back, line_list, of_length, u32_at, sides_at, sides_agree, optional, has_raw, has_picture, flags, model_length, well_formed_load, load_call, cut_call, fit_call, contents_call, orient_call, by_code, call_of, model_part, block_part, contents_part, model_given, block_given}
use Rattle.calls.specs.Laws.{four_bytes, size_bytes, is_given, flag_byte, sides_of, body, check_of, checked, Number, SizeNumbers, Encodable, Encodes, EncodedOrMalformed, is_malformed, is_encoded, ReadIsEncoded}
use Rattle.calls.proofs.Encoded.{sum_snoc}

-- ---- a number
module _ (a b c d : ℕ) (ha : a < 256) (hb : b < 256) (hc : c < 256) (hd : d < 256) where
  abbrev joined : ℕ
  joined = 65536 * (256 * a + b) + (256 * c + d)

  byte_1 : joined / 16777216 % 256 ≡ a
  byte_1 = omega arith

  byte_2 : joined / 65536 % 256 ≡ b
  byte_2 = omega arith

  byte_3 : joined / 256 % 256 ≡ c
  byte_3 = omega arith

  byte_4 : joined % 256 ≡ d
  byte_4 = omega arith

  pub number_small : joined < 4294967296
  number_small = omega arith

number_of : (s : List ℕ) → AreBytes s → Number (u32_of Big s)
unfolding u32_of u16_of
number_of s h = number_small (get_or s 0 0) (get_or s 1 0) (get_or (drop 2 s) 0 0) (get_or (drop 2 s) 1 0) (h 0) (h 1)
    (rw (get_or-drop 2 s 0 0) (h 2)) (rw (get_or-drop 2 s 1 0) (h 3))

four_of : (s : List ℕ) → AreBytes s → 4 ≤ length s → four_bytes (u32_of Big s) ≡ take 4 s
unfolding four_bytes u32_of u16_of
four_of [] h l = absurd (omega arith)
four_of (a ∷ []) h l = absurd (omega arith)
four_of (a ∷ b ∷ []) h l = absurd (omega arith)
four_of (a ∷ b ∷ c ∷ []) h l = absurd (omega arith)
four_of (a ∷ b ∷ c ∷ d ∷ s) h l =
    rw (
      byte_1 a b c d (h 0) (h 1) (h 2) (h 3),
      byte_2 a b c d (h 0) (h 1) (h 2) (h 3),
      byte_3 a b c d (h 0) (h 1) (h 2) (h 3),
      byte_4 a b c d (h 0) (h 1) (h 2) (h 3),
    )

-- ---- the check
module _ (b : List ℕ) (h : AreBytes b) (some : 1 ≤ length b) where
  but_last : b ≡ take (length b - 1) b ++ get_or b (length b - 1) 0 ∷ []
  but_last =
      let e : suc (length b - 1) ≡ length b = omega arith in
      sym (take_all (suc (length b - 1)) b (omega arith)) ∙ take-suc b (length b - 1) 0 (omega arith)

  check_is : (s : List ℕ) (y : ℕ) → y < 256 → checks (s ++ y ∷ []) ≡ true → check_of s ≡ y
  unfolding check_of
  check_is s y l e = omega (arith, sum_snoc s y, eqb-true (sum (s ++ y ∷ []) % 256) 0 e)

  -- bytes whose check is right are those before it, checked
  whole : checks b ≡ true → (s : List ℕ) → s ≡ take (length b - 1) b → checked s ≡ b
  unfolding checked
  whole e s es =
      let z : b ≡ s ++ get_or b (length b - 1) 0 ∷ [] = rw es but_last in
      let y : check_of s ≡ get_or b (length b - 1) 0 =
      check_is s (get_or b (length b - 1) 0) (h (length b - 1)) (ap checks (sym z) ∙ e) in
      rw y (sym z)

-- ---- the parts at their places
pub bytes_from : (b : List ℕ) → AreBytes b → (n : ℕ) → AreBytes (drop n b)
bytes_from b h n i = rw (get_or-drop n b i 0) (h (n + i))

-- one part more
grow : (b : List ℕ) (n m : ℕ) (x y : List ℕ) → x ≡ take n b → y ≡ take m (drop n b) → x ++ y ≡ take (n + m) b
grow b n m x y ex ey = rw (ex, ey, take-add n m b)

-- a byte
one_at : (b : List ℕ) (at k : ℕ) → at < length b → k ≡ get_or b at 0 → k ∷ [] ≡ take 1 (drop at b)
one_at b at k l e =
    let z : 0 < length (drop at b) = omega (arith, length-drop at b) in
    rw (take-suc (drop at b) 0 0 z, get_or-drop at b 0 0, add-zero at, e)

module _ (b : List ℕ) (h : AreBytes b) where
  bytes_at : (at : ℕ) → at + 4 ≤ length b → four_bytes (u32_at b at) ≡ take 4 (drop at b)
  bytes_at at l = four_of (drop at b) (bytes_from b h at) (omega (arith, length-drop at b))

  bytes_of_sides : (at : ℕ) → at + 8 ≤ length b → size_bytes (sides_at b at) ≡ take 8 (drop at b)
  unfolding sides_at
  bytes_of_sides at l =
      grow (drop at b) 4 4 (four_bytes (u32_at b at)) (four_bytes (u32_at b (at + 4))) (bytes_at at (omega arith))
      (rw (drop-drop 4 at b) (bytes_at (at + 4) (omega arith)))

  size_numbers : (at : ℕ) → SizeNumbers (sides_at b at)
  unfolding sides_at
  size_numbers at = (number_of (drop at b) (bytes_from b h at), number_of (drop (at + 4) b) (bytes_from b h (at + 4)))

-- ---- a load's flags and sizes
no_sides : (w h : ℕ) → w ≡ 0 → h ≡ 0 → ◌≡◌ {A = Size} record { width = 0; height = 0 } record { width = w; height = h }
no_sides w h e f = rw (e, f)

sides_are : (g : Bool) (s : Size) → sides_agree g s ≡ true → sides_of (optional g s) ≡ s
unfolding sides_agree optional
sides_are true s e = refl
sides_are false s e =
    let z = both (eqb s.width 0) (eqb s.height 0) e in
    no_sides s.width s.height (eqb-true s.width 0 z.0) (eqb-true s.height 0 z.1)

given_is : (g : Bool) (s : Size) → is_given (optional g s) ≡ g
unfolding optional
given_is true s = refl
given_is false s = refl

flags_are : (f : ℕ) → f ≤ 3 → cond (eqb (f % 2) 1) 1 0 + cond (eqb (f / 2 % 2) 1) 2 0 ≡ f
flags_are zero h = refl
flags_are (suc zero) h = refl
flags_are (suc (suc zero)) h = refl
flags_are (suc (suc (suc zero))) h = refl
flags_are (suc (suc (suc (suc f)))) h = absurd (omega arith)

-- ---- a line whose check is right
-- where a test decides between a call and a malformed line
if_so : (b : List ℕ) (t : Bool) {x : LineCall} → (t ≡ true → Encodes b x) → EncodedOrMalformed b (cond t (accepted x) (refused 14))
if_so b t f = by_cond (EncodedOrMalformed b) t (λ e. is_encoded (f e)) (λ e. is_malformed)

module _ (b : List ℕ) (h : AreBytes b) (right : checks b ≡ true) where
  -- back and list: a call that is its code alone
  plain : (x : LineCall) (k : ℕ) → Encodable x (model_given x b) (block_given x b) → body x (model_given x b) (block_given x b) ≡ k ∷ [] → k ≡ get_or b 0 0
      → EncodedOrMalformed b (of_length 2 b (accepted x))
  plain x k can e c =
      if_so b (eqb (length b) 2)
      (λ t.
      let l = eqb-true (length b) 2 t in
      record { encodable = can; its_bytes = rw e (whole b h (omega arith) right (k ∷ []) (rw l (one_at b 0 k (omega arith) c))) })

  -- a cut
  cut_body : (k : ℕ) → k ≡ get_or b 0 0 → length b ≡ 18
      → k ∷ [] ++ four_bytes (u32_at b 1) ++ four_bytes (u32_at b 5) ++ four_bytes (u32_at b 9) ++ four_bytes (u32_at b 13)
      ≡ take 17 b
  cut_body k c l =
      grow b 13 4 _ _
      (grow b 9 4 _ _
      (grow b 5 4 _ _ (grow b 1 4 _ _ (one_at b 0 k (omega arith) c) (bytes_at b h 1 (omega arith))) (bytes_at b h 5 (omega arith)))
      (bytes_at b h 9 (omega arith)))
      (bytes_at b h 13 (omega arith))

  cut : 2 ≡ get_or b 0 0 → EncodedOrMalformed b (cut_call b)
  unfolding cut_call body
  cut c =
      if_so b (eqb (length b) 18)
      (λ e.
      let l = eqb-true (length b) 18 e in
      record {
        encodable = (
          number_of (drop 1 b) (bytes_from b h 1),
          number_of (drop 5 b) (bytes_from b h 5),
          number_of (drop 9 b) (bytes_from b h 9),
          number_of (drop 13 b) (bytes_from b h 13),
          (refl, refl),
        );
        its_bytes = whole b h (omega arith) right _ (rw l (cut_body 2 c l));
      })

  -- a fit
  fit_body : (k : ℕ) → k ≡ get_or b 0 0 → length b ≡ 10 → k ∷ [] ++ size_bytes (sides_at b 1) ≡ take 9 b
  fit_body k c l = grow b 1 8 _ _ (one_at b 0 k (omega arith) c) (bytes_of_sides b h 1 (omega arith))

  fit : 7 ≡ get_or b 0 0 → EncodedOrMalformed b (fit_call b)
  unfolding fit_call body
  fit c =
      if_so b (eqb (length b) 10)
      (λ e.
      let l = eqb-true (length b) 10 e in
      record { encodable = (size_numbers b h 1, (refl, refl)); its_bytes = whole b h (omega arith) right _ (rw l (fit_body 7 c l)) })

  -- an orientation
  orient_body : (k n : ℕ) → k ≡ get_or b 0 0 → n ≡ get_or b 1 0 → length b ≡ 3 → k ∷ n ∷ [] ≡ take 2 b
  orient_body k n c e l = grow b 1 1 (k ∷ []) (n ∷ []) (one_at b 0 k (omega arith) c) (one_at b 1 n (omega arith) e)

  orientation : 9 ≡ get_or b 0 0 → EncodedOrMalformed b (orient_call b)
  unfolding orient_call body
  orientation c =
      if_so b (eqb (length b) 3)
      (λ e.
      let l = eqb-true (length b) 3 e in
      record { encodable = (h 1, (refl, refl)); its_bytes = whole b h (omega arith) right _ (rw l (orient_body 9 (get_or b 1 0) c refl l)) })

  -- contents
  contents_body : (k : ℕ) → k ≡ get_or b 0 0 → 2 ≤ length b → k ∷ [] ++ contents_part b ≡ take (length b - 1) b
  unfolding contents_part
  contents_body k c l =
      let e : length b - 1 ≡ 1 + (length b - 2) = omega arith in
      rw e (grow b 1 (length b - 2) _ _ (one_at b 0 k (omega arith) c) refl)

  contents : 8 ≡ get_or b 0 0 → EncodedOrMalformed b (contents_call b)
  unfolding contents_call body
  contents c =
      if_so b (leb 2 (length b))
      (λ e.
      let l = leb-true 2 (length b) e in
      record { encodable = refl; its_bytes = whole b h (omega arith) right _ (contents_body 8 c l) })

  -- a load
  module _ (c : 1 ≡ get_or b 0 0) (long : 20 + model_length b ≤ length b) where
    model_long : length (model_part b) ≡ model_length b
    unfolding model_part
    model_long = length-take-le (model_length b) (drop 19 b) (omega (arith, length-drop 19 b))

    load_front : (f n : ℕ) (s t : Size) → f ≡ flags b → s ≡ sides_at b 2 → t ≡ sides_at b 10 → n ≡ model_length b
        → 1 ∷ f ∷ [] ++ size_bytes s ++ size_bytes t ++ n ∷ [] ≡ take 19 b
    load_front f n s t ef es et en =
        rw (es, et)
        (grow b 18 1 _ _
        (grow b 10 8 _ _
        (grow b 2 8 _ _
        (grow b 1 1 (1 ∷ []) (f ∷ []) (one_at b 0 1 (omega arith) c) (one_at b 1 f (omega arith) ef))
        (bytes_of_sides b h 2 (omega arith)))
        (bytes_of_sides b h 10 (omega arith)))
        (one_at b 18 n (omega arith) en))

    load_body : (x : List ℕ) → x ≡ take 19 b → x ++ model_part b ++ block_part b ≡ take (length b - 1) b
    unfolding model_part block_part
    load_body x e =
        let l : length b - 1 ≡ 19 + model_length b + (length b - (20 + model_length b)) = omega arith in
        rw l
        (grow b (19 + model_length b) (length b - (20 + model_length b)) _ _ (grow b 19 (model_length b) _ _ e refl) refl)

    load_encodes : flags b ≤ 3 → sides_agree (has_raw b) (sides_at b 2) ≡ true → sides_agree (has_picture b) (sides_at b 10) ≡ true
        → Encodes b (line_load (optional (has_raw b) (sides_at b 2)) (optional (has_picture b) (sides_at b 10)))
    unfolding body
    load_encodes few raw picture =
        let es : sides_of (optional (has_raw b) (sides_at b 2)) ≡ sides_at b 2 = sides_are (has_raw b) (sides_at b 2) raw in
        let et : sides_of (optional (has_picture b) (sides_at b 10)) ≡ sides_at b 10 = sides_are (has_picture b) (sides_at b 10) picture in
        let ef : flag_byte (optional (has_raw b) (sides_at b 2)) (optional (has_picture b) (sides_at b 10)) ≡ flags b =
        rw (given_is (has_raw b) (sides_at b 2), given_is (has_picture b) (sides_at b 10)) (flags_are (flags b) few) in
        record {
          encodable = (rw es (size_numbers b h 2), rw et (size_numbers b h 10), rw model_long (h 18));
          its_bytes = whole b h (omega arith) right _ (load_body _ (load_front _ _ _ _ ef es et model_long));
        }

  load : 1 ≡ get_or b 0 0 → EncodedOrMalformed b (load_call b)
  unfolding load_call well_formed_load
  load c =
      if_so b (well_formed_load b)
      (λ e.
      let x = both (leb (20 + model_length b) (length b)) _ e in
      let y = both (leb (flags b) 3) _ x.1 in
      let z = both (sides_agree (has_raw b) (sides_at b 2)) _ y.1 in
      load_encodes c (leb-true (20 + model_length b) (length b) x.0) (leb-true (flags b) 3 y.0) z.0 z.1)

  -- ---- every code
  coded : (k : ℕ) → k ≡ get_or b 0 0 → EncodedOrMalformed b (by_code k b)
  unfolding by_code body
  coded k c =
      arm 1 load (arm 2 cut
      (arm 5 (plain line_back 5 (refl, refl) refl) (arm 6 (plain line_list 6 (refl, refl) refl)
      (arm 7 fit (arm 8 contents (arm 9 orientation is_malformed))))))
    where
      arm : (n : ℕ) {x y : Outcome LineCall} → (n ≡ get_or b 0 0 → EncodedOrMalformed b x) → EncodedOrMalformed b y → EncodedOrMalformed b (cond (eqb k n) x y)
      arm n f g = by_cond (EncodedOrMalformed b) (eqb k n) (λ e. f (sym (eqb-true k n e) ∙ c)) (λ e. g)

pub read_is_encoded : ReadIsEncoded
unfolding call_of
read_is_encoded b h = by_cond (EncodedOrMalformed b) (checks b) (λ e. coded b h e (get_or b 0 0) refl) (λ e. is_malformed)
