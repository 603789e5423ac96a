-- What the program makes of a read: what serving the bytes leaves, and what each other answer of a read leaves.
use Rattle.std.specs.Prelude.{ℕ, zero, suc, ◌<◌, ◌≤◌, Bool, true, false, List, [], ◌≡◌, ◌⊎◌, length, take, Result, Ok, Err}
use Rattle.std.proofs.lemmas.List.Edits.{sets}
use Rattle.sheet.specs.declared.Sheet.{Sheet}
use Rattle.stream.specs.Stream.{piece_text, last_text, Taken}
use Rattle.focusdesk.specs.declared.After.{After}
use Rattle.focusdesk.specs.declared.Got.{Got}
use Rattle.focusdesk.specs.declared.Got.TheVariants.{Bytes, Interrupted, Failed}
use Rattle.focusdesk.specs.declared.Once.{Once}

-- the start of a part of the input is answered, where `h` is held of a line: some of the part is used, if there is any, and the bytes
-- for a write, the first ones of the buffer `out`, are its text
pub record ServesOnce (s : Sheet) (line₀ h input line out : List ℕ) (r : Once) : Type 0 where
  pub taken : Taken s line₀ h (take r.used input) r.sheet line r.held
  pub handed : take r.handed out ≡ piece_text s h (take r.used input)
  pub used_part : r.used ≤ length input
  pub used_some : 0 < length input → 0 < r.used

-- a part of the input is used from its start on: all of it, and it goes on, where `sent` says that every write went out; else some of
-- it, if there is any
pub record Serves (s : Sheet) (line₀ h input line : List ℕ) (r : After) : Type 0 where
  pub used : ℕ
  pub taken : Taken s line₀ h (take used input) r.sheet line r.held
  pub used_part : used ≤ length input
  pub used_some : 0 < length input → 0 < used
  pub used_all : r.more ≡ true → used ≡ length input
  pub more_if_sent : r.more ≡ r.sent

-- the bytes that a read put at the start of a buffer: as many as it answered, none where it failed
abbrev pub came : Got → List ℕ → List ℕ
came (Bytes n) input = take n input
came Interrupted input = []
came Failed input = []

-- what a read answered: how many bytes came, or that it failed, be it that a signal interrupted it. No contract tells these two apart
unfoldable pub Gets : {E : Type 0} → Result ℕ E → Got → Type 0
Gets (Ok n) got = got ≡ Bytes n
Gets (Err e) got = (got ≡ Interrupted) ⊎ (got ≡ Failed)

-- what is left where no write of a served part has failed
abbrev pub after_read : Sheet → ℕ → Bool → After
after_read s held more = record { sheet = s; held = held; sent = true; more = more }

-- after a read that answered `got` and left `input` in its buffer. One that failed changes nothing, and there may be more to come just
-- where a signal interrupted it; at the end of the input there is no more, and the line that is held is answered at the start of the
-- buffer of answers; else the bytes that came are served
unfoldable pub ReadsOnce : Got → Sheet → List ℕ → ℕ → List ℕ → List ℕ → List ℕ → List ℕ → After → Type 0
ReadsOnce Interrupted s line₀ held input out₀ line out r =
    (r ≡ after_read s held true) × (line ≡ line₀) × (out ≡ out₀)
ReadsOnce Failed s line₀ held input out₀ line out r =
    (r ≡ after_read s held false) × (line ≡ line₀) × (out ≡ out₀)
ReadsOnce (Bytes zero) s line₀ held input out₀ line out r =
    (r ≡ after_read s 0 false) × (line ≡ line₀) × (out ≡ sets out₀ 0 (last_text s (take held line₀)))
ReadsOnce (Bytes (suc n)) s line₀ held input out₀ line out r =
    Serves s line₀ (take held line₀) (came (Bytes (suc n)) input) line r
