-- `put_number`: below 10 one digit, else the digits of the tenth and one more. Assumes nothing.
use Rattle.std.proofs.Common.{arith}
use Rattle.text.proofs.Numbers.{number_few, number_more}
use Rattle.text.proofs.place.+put_number.Goals as goal

pub returns-then-one_digit : goal.returns-then-one_digit
returns-then-one_digit t c = number_few _ (omega arith) c.last_digit.ensures c.put_byte.ensures

pub returns : goal.returns
returns t c = number_more _ (omega arith) (omega arith) c.last_digit-2.ensures c.put_number-next.ensures.0 c.put_byte-2.ensures
