-- The parts of a load in a record.
use Rattle.std.specs.Prelude.{ℕ, Bool, ◌/◌, ◌%◌, ◌==◌, List, get_or, take, drop}
use Rattle.numbers.specs.Numbers.{u16_of}
use Rattle.numbers.specs.declared.io.ByteOrder.TheVariants.{Big}

-- whether the raw size is given, and the picture size
abbrev pub has_raw : List ℕ → Bool
has_raw s = get_or s 0 0 % 2 == 1

abbrev pub has_picture : List ℕ → Bool
has_picture s = get_or s 0 0 / 2 % 2 == 1

-- the model, and behind it the block
abbrev pub model_in : List ℕ → List ℕ
model_in s = take (get_or s 17 0) (drop 20 s)

abbrev pub block_in : List ℕ → List ℕ
block_in s = take (u16_of Big (drop 18 s)) (drop (get_or s 17 0) (drop 20 s))
