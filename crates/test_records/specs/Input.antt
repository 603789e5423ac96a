-- What a reader of records gives.
use Rattle.std.specs.Prelude.{ℕ, List, Option, Result, IfSome, IfOk}
use Rattle.std.specs.Io.KnownBytes.{Consumes}

-- a record that was read is what was next in the reader. Of None and of an error nothing is said: the clauses of `read_exact` speak of Ok
-- alone
abbrev pub YieldsRecord : {E : Type 0} → Option (List ℕ) → Option (Result (List ℕ) E) → Option (List ℕ) → Type 0
YieldsRecord before r after = IfSome r (λ x. IfOk x (λ bytes. Consumes before after bytes))
