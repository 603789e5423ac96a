-- The format the other way round: how a call is encoded in bytes. The calls that are read are exactly those that are encoded, which
-- proofs/Encoded.antt (what is encoded is read back, and is bytes) and proofs/Accepted.antt (what is read was encoded so) prove.
use Rattle.std.specs.Prelude.{Option, Some, None}
use Rattle.std.specs.Prelude.{ℕ, ◌+◌, ◌-◌, ◌/◌, ◌%◌, ◌<◌, Bool, true, false, cond, List, [], ◌∷◌, ◌++◌, ◌≡◌, length}
use Rattle.reading.specs.Outcome.{Outcome, refused, accepted}
use Rattle.reading.specs.declared.geometry.Size.{Size}
use Rattle.hex_lines.specs.Hex.{sum}
use Rattle.hex_lines.specs.Laws.{AreBytes}
use Rattle.calls.specs.Format.{LineCall, line_load, line_cut, line_back, line_list, line_fit, line_contents, line_orient, call_of, model_given, block_given}

-- ---- a call's bytes
-- "Numbers big-endian", of 32 bits
unfoldable pub four_bytes : ℕ → List ℕ
four_bytes n = n / 16777216 % 256 ∷ n / 65536 % 256 ∷ n / 256 % 256 ∷ n % 256 ∷ []

abbrev pub size_bytes : Size → List ℕ
size_bytes s = four_bytes s.width ++ four_bytes s.height

abbrev pub is_given : Option Size → Bool
is_given None = false
is_given (Some s) = true

-- "flags: 1 raw, 2 picture"
abbrev pub flag_byte : Option Size → Option Size → ℕ
flag_byte raw picture = cond (is_given raw) 1 0 + cond (is_given picture) 2 0

-- "sides, 0 if missing"
abbrev pub sides_of : Option Size → Size
sides_of None = record { width = 0; height = 0 }
sides_of (Some s) = s

-- the bytes before the check: the code, and what the call is given
unfoldable pub body : LineCall → List ℕ → List ℕ → List ℕ
body (line_load raw picture) model block =
    1 ∷ flag_byte raw picture ∷ [] ++ size_bytes (sides_of raw) ++ size_bytes (sides_of picture) ++ length model ∷ [] ++ model ++ block
body (line_cut left top width height) model block =
    2 ∷ [] ++ four_bytes left ++ four_bytes top ++ four_bytes width ++ four_bytes height
body line_back model block = 5 ∷ []
body line_list model block = 6 ∷ []
body (line_fit size) model block = 7 ∷ [] ++ size_bytes size
body line_contents model block = 8 ∷ [] ++ block
body (line_orient number) model block = 9 ∷ number ∷ []

-- the byte with which some bytes sum to 0
unfoldable pub check_of : List ℕ → ℕ
check_of s = (256 - sum s % 256) % 256

unfoldable pub checked : List ℕ → List ℕ
checked s = s ++ check_of s ∷ []

abbrev pub encoded : LineCall → List ℕ → List ℕ → List ℕ
encoded call model block = checked (body call model block)

-- ---- what can be encoded
abbrev pub Number : ℕ → Type 0
Number n = n < 4294967296

abbrev pub SizeNumbers : Size → Type 0
SizeNumbers s = Number s.width × Number s.height

-- a call that takes no model and no block
abbrev pub Alone : List ℕ → List ℕ → Type 0
Alone model block = (model ≡ []) × (block ≡ [])

abbrev pub Encodable : LineCall → List ℕ → List ℕ → Type 0
Encodable (line_load raw picture) model block =
    SizeNumbers (sides_of raw) × SizeNumbers (sides_of picture) × (length model < 256)
Encodable (line_cut left top width height) model block =
    Number left × Number top × Number width × Number height × Alone model block
Encodable line_back model block = Alone model block
Encodable line_list model block = Alone model block
Encodable (line_fit size) model block = SizeNumbers size × Alone model block
Encodable line_contents model block = model ≡ []
Encodable (line_orient number) model block = (number < 256) × Alone model block

-- ---- what is encoded is read back: the call, its model and its block
pub record ReadBack (call : LineCall) (model block b : List ℕ) : Type 0 where
  pub the_call : call_of b ≡ accepted call
  pub the_model : model_given call b ≡ model
  pub the_block : block_given call b ≡ block

abbrev pub EncodedIsRead : Type 0
EncodedIsRead =
    (call : LineCall) (model block : List ℕ) → Encodable call model block → ReadBack call model block (encoded call model block)

-- and is bytes, where the model and the block are
abbrev pub EncodedIsBytes : Type 0
EncodedIsBytes =
    (call : LineCall) (model block : List ℕ) → Encodable call model block → AreBytes model → AreBytes block
    → AreBytes (encoded call model block)

-- ---- and what is read was encoded so
-- a call is encoded in b, with the model and the block that are read of b
pub record Encodes (b : List ℕ) (call : LineCall) : Type 0 where
  pub encodable : Encodable call (model_given call b) (block_given call b)
  pub its_bytes : encoded call (model_given call b) (block_given call b) ≡ b

-- so is every call that is read; what is not read is malformed
pub data EncodedOrMalformed (b : List ℕ) : Outcome LineCall → Type 0 where
  is_malformed : EncodedOrMalformed b (refused 14)
  is_encoded : {call : LineCall} → Encodes b call → EncodedOrMalformed b (accepted call)

abbrev pub ReadIsEncoded : Type 0
ReadIsEncoded = (b : List ℕ) → AreBytes b → EncodedOrMalformed b (call_of b)
