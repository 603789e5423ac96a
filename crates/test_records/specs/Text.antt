-- What a call ended with, as text.
use Rattle.std.specs.Prelude.{ℕ, ◌++◌, List, Option, Some, None, codes}
use Rattle.std.specs.Fmt.{decimal}

-- `ok`, or `no` and the number of the refusal
abbrev pub ended_text : Option ℕ → List ℕ
ended_text None = codes "ok"
ended_text (Some n) = codes "no " ++ decimal n
