-- `exponent_from` meets its contract.
use Rattle.std.proofs.Common.{◌∙◌}
use Rattle.number.proofs.ExponentLaws.{handed}
use Rattle.decimals.proofs.RunLaws.{from-none, from_some, from-err}
use Rattle.decimals.proofs.exponent_from.Goals as goal

pub returns-then-s-e : goal.returns-then-s-e
returns-then-s-e c = from-none _ _ c.if-s-e.true

pub returns-in_err-x : goal.returns-in_err-x
returns-in_err-x c = handed _ c.from_residual.ensures.0 ∙ from-err _ _ c.if-s-e.false _ c.exponent_of.ensures.0 _ c.in_err-x.was

pub returns : goal.returns
returns c = from_some _ _ c.if-s-e.false _ c.exponent_of.ensures.0 _ c.in_ok-x.was
