-- Lists of calls, and what the journal answers to them. Of the sheet nothing is said here.
use Rattle.std.specs.Prelude.{Option}
use Rattle.std.specs.Prelude.{ℕ, Bool, true, false, List, [], ◌∷◌}
use Rattle.reading.specs.declared.geometry.Size.{Size}
use Rattle.placing.specs.Focus.{focus_of}
use Rattle.journal.specs.Journal.{Change, Journal, Answer, journal_load, journal_change, journal_back, journal_list, journal_fit}

-- a call with its arguments, except the sheet
pub data Call : Type 0 where
  -- "block, raw and picture sizes (each may be missing) and model"
  load : List ℕ → Option Size → Option Size → List ℕ → Call
  -- cut or orientation
  change : Change → Call
  back : Call
  -- with what the lent buffer holds
  list : List ℕ → Call
  -- with the box, and what the lent buffer holds
  fit : Size → List ℕ → Call

-- what the buffer that a call is lent holds; no places of a call that is lent none
abbrev pub lent : Call → List ℕ
lent (load block raw picture model) = []
lent (change c) = []
lent back = []
lent (list buffer) = buffer
lent (fit box buffer) = buffer

abbrev pub is_load : Call → Bool
is_load (load block raw picture model) = true
is_load (change c) = false
is_load back = false
is_load (list buffer) = false
is_load (fit box buffer) = false

-- how a call ends, and the journal after it
unfoldable pub journal_step : Journal → Call → Answer × Journal
journal_step j (load block raw picture model) = journal_load j (focus_of block raw picture model)
journal_step j (change c) = journal_change j c
journal_step j back = journal_back j
journal_step j (list buffer) = (journal_list j buffer, j)
journal_step j (fit box buffer) = (journal_fit j box buffer, j)

-- the answers to a list of calls, and the journal after it
unfoldable pub run_journal : Journal → List Call → List Answer
run_journal j [] = []
run_journal j (c ∷ cs) = (journal_step j c).0 ∷ run_journal (journal_step j c).1 cs

unfoldable pub journal_after : Journal → List Call → Journal
journal_after j [] = j
journal_after j (c ∷ cs) = journal_after (journal_step j c).1 cs
