-- An edit in the bytes of a record.
use Rattle.std.specs.Prelude.{ℕ, List, get_or, drop, cond, ◌==◌}
use Rattle.numbers.specs.Numbers.{u32_of}
use Rattle.numbers.specs.declared.io.ByteOrder.TheVariants.{Big}
use Rattle.test_records.specs.declared.edit.Edit.{Edit}
use Rattle.test_records.specs.declared.edit.Edit.TheVariants.{Orient, Cut}

-- the cut of four 32-bit numbers
abbrev pub cut_in : List ℕ → Edit
cut_in s =
    Cut (record { left = u32_of Big s; top = u32_of Big (drop 4 s); width = u32_of Big (drop 8 s); height = u32_of Big (drop 12 s) })

-- behind 9 the orientation's number, behind any other code the cut
abbrev pub edit_in : List ℕ → Edit
edit_in s = cond (get_or s 0 0 == 9) (Orient (get_or s 1 0)) (cut_in (drop 1 s))
