-- `decimal_digit` meets its contract.
use Rattle.number.proofs.ExponentLaws.{one-digit}
use Rattle.number.proofs.exponent.decimal_digit.Goals as goal

pub returns-then-d-lt10 : goal.returns-then-d-lt10
returns-then-d-lt10 c = search one-digit

pub returns-else-d-lt10 : goal.returns-else-d-lt10
returns-else-d-lt10 c = search one-digit
