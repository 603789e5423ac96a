-- 01, "After the sheet": what is printed, and what the journal (01's book) alone has printed for lines. Nothing of the sheet stands here.
use Rattle.std.specs.Prelude.{ℕ, List, [], ◌∷◌, ◌++◌, get_or, length}
use Rattle.answers.specs.Answers.{ok_text, no_text, tags_text, head_text, points_text}
use Rattle.reading.specs.Outcome.{Outcome, refused, accepted}
use Rattle.reading.specs.Contents.{contents_of}
use Rattle.journal.specs.Journal.{Journal, Answer}
use Rattle.journal.specs.Calls.{Call, journal_step}
use Rattle.session.specs.Lines.{Spelled, contents, asks, spelled}

-- ---- the text of an answer
-- "It prints `ok`, .. or for list and fit a head line as below and one line a point with its six numbers": of a call that is accepted
-- with nothing, or with the head of a listing, whose third number is the count of points
unfoldable pub given_text : List ℕ → List ℕ → List ℕ
given_text [] buffer = ok_text
given_text (width ∷ given) buffer = head_text (width ∷ given) ++ points_text buffer (get_or (width ∷ given) 2 0)

-- "`no N`"
abbrev pub outcome_text : Outcome (List ℕ) → List ℕ → List ℕ
outcome_text (refused n) buffer = no_text n
outcome_text (accepted given) buffer = given_text given buffer

abbrev pub answer_text : Answer → List ℕ
answer_text a = outcome_text a.outcome a.buffer

-- "`tags` with count and tags in decimal (unused places not printed)", or `no 1`
unfoldable pub contents_text : Outcome (List ℕ) → List ℕ
contents_text (refused n) = no_text n
contents_text (accepted tags) = tags_text (length tags) tags

-- of what a line spells, where `answers` gives what a call is answered: "a malformed line gives 14 and nothing else of it is tested"
abbrev pub text_by : (Call → Answer) → Outcome Spelled → List ℕ
text_by answers (refused n) = no_text n
text_by answers (accepted (contents block)) = contents_text (contents_of block)
text_by answers (accepted (asks c)) = answer_text (answers c)

-- ---- the journal
abbrev pub journal_text : Journal → Outcome Spelled → List ℕ
journal_text j spelt = text_by (λ c. (journal_step j c).0) spelt

-- a malformed line and a question for contents leave it as it is
abbrev pub journal_next : Journal → Outcome Spelled → Journal
journal_next j (refused n) = j
journal_next j (accepted (contents block)) = j
journal_next j (accepted (asks c)) = (journal_step j c).1

-- a text for each line
unfoldable pub journal_texts : Journal → List (List ℕ) → List (List ℕ)
journal_texts j [] = []
journal_texts j (line ∷ lines) = journal_text j (spelled line) ∷ journal_texts (journal_next j (spelled line)) lines
