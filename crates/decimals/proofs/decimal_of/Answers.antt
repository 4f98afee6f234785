-- `decimal_of` meets its contract.
use Rattle.number.proofs.ExponentLaws.{handed}
use Rattle.decimals.proofs.RunLaws.{mantissa-cut, decimal-is, decimal-none}
use Rattle.decimals.proofs.decimal_of.Goals as goal

pub returns-in_err-x : goal.returns-in_err-x
returns-in_err-x c = rw (handed _ c.from_residual.ensures.0) (decimal-none _ _ c.e_place-e.ensures _ c.exponent_from.ensures _ c.in_err-x.was)

pub slice_bounds-mantissa_of-end : goal.slice_bounds-mantissa_of-end
slice_bounds-mantissa_of-end c = mantissa-cut _ _ c.e_place-e.ensures

pub returns : goal.returns
returns c = decimal-is _ _ c.e_place-e.ensures _ c.exponent_from.ensures _ _ c.in_ok-x.was c.mantissa_of.ensures
