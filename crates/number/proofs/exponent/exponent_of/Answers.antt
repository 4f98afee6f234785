-- `exponent_of` meets its contract.
use Rattle.number.proofs.ExponentLaws.{digit-small, exp-none, exp-long, exp-first, exp-one, exp-first-2, exp-second, exp-two, ten-fits, two-fit, handed}
use Rattle.std.proofs.Common.{◌<◌, arith}
use Rattle.number.proofs.exponent.exponent_of.Goals as goal

pub returns-in_err-by-in-len1 : goal.returns-in_err-by-in-len1
returns-in_err-by-in-len1 c =
    rw (handed _ c.from_residual.ensures.0)
    (exp-first _ _ _ c.sign_len.ensures.0 c.is_minus-down.ensures _ c.decimal_digit.ensures (omega arith) (omega arith) _ c.in_err-by-in-len1.was, omega arith)

pub returns-in_err-decimal_digit-in-len2 : goal.returns-in_err-decimal_digit-in-len2
returns-in_err-decimal_digit-in-len2 c =
    rw (handed _ c.from_residual-in_err-decimal_digit-in-len2.ensures.0)
    (exp-first-2 _ _ _ c.sign_len.ensures.0 c.is_minus-down.ensures _ c.decimal_digit-in-len2.ensures (omega arith) (omega arith) _ c.in_err-decimal_digit-in-len2.was, omega arith)

pub overflow_mul-by : goal.overflow_mul-by
overflow_mul-by c = ten-fits _ (digit-small _ _ c.decimal_digit-in-len2.ensures _ c.in_ok-decimal_digit-in-len2.was)

pub returns-in_err-by-in-len2 : goal.returns-in_err-by-in-len2
returns-in_err-by-in-len2 c =
    rw (handed _ c.from_residual-in_err-by-in-len2.ensures.0) (
      exp-second _ _ _ c.sign_len.ensures.0 c.is_minus-down.ensures _ c.decimal_digit-in-len2.ensures (omega arith) (omega arith) _ c.in_ok-decimal_digit-in-len2.was
          _ c.decimal_digit-in-len2-2.ensures _ c.in_err-by-in-len2.was,
      omega arith,
    )

pub overflow_add-by : goal.overflow_add-by
overflow_add-by c =
    two-fit _ _ (digit-small _ _ c.decimal_digit-in-len2.ensures _ c.in_ok-decimal_digit-in-len2.was) (digit-small _ _ c.decimal_digit-in-len2-2.ensures _ c.in_ok-by-in-len2.was)

pub returns-in-empty : goal.returns-in-empty
returns-in-empty c = (exp-none _ _ _ c.sign_len.ensures.0 c.is_minus-down.ensures (omega arith), omega arith)

pub returns-in_default : goal.returns-in_default
returns-in_default c = (exp-long _ _ _ c.sign_len.ensures.0 c.is_minus-down.ensures (omega arith), omega arith)

pub returns-in_ok-by-in-len1 : goal.returns-in_ok-by-in-len1
returns-in_ok-by-in-len1 c =
    let d : c.in_ok-by-in-len1.by < 10 = digit-small _ _ c.decimal_digit.ensures _ c.in_ok-by-in-len1.was in
    (exp-one _ _ _ c.sign_len.ensures.0 c.is_minus-down.ensures _ c.decimal_digit.ensures (omega arith) (omega arith) _ c.in_ok-by-in-len1.was, omega (arith, d))

pub returns-in_ok-by-in-len2 : goal.returns-in_ok-by-in-len2
returns-in_ok-by-in-len2 c =
    let d : c.in_ok-decimal_digit-in-len2.field-0 < 10 = digit-small _ _ c.decimal_digit-in-len2.ensures _ c.in_ok-decimal_digit-in-len2.was in
    let e : c.in_ok-by-in-len2.field-0 < 10 = digit-small _ _ c.decimal_digit-in-len2-2.ensures _ c.in_ok-by-in-len2.was in (
      exp-two _ _ _ c.sign_len.ensures.0 c.is_minus-down.ensures _ c.decimal_digit-in-len2.ensures (omega arith) (omega arith) _ c.in_ok-decimal_digit-in-len2.was
          _ c.decimal_digit-in-len2-2.ensures _ c.in_ok-by-in-len2.was,
      omega (arith, d, e),
    )
