-- `made_of` meets its contract.
use Rattle.decimals.proofs.MantissaLaws.{makes}
use Rattle.decimals.proofs.mantissa.made_of.Goals as goal

pub returns-then-i-f-gt-MOST_DIGITS : goal.returns-then-i-f-gt-MOST_DIGITS
returns-then-i-f-gt-MOST_DIGITS c = search makes

pub returns-then-f-gt-MOST_AFTER : goal.returns-then-f-gt-MOST_AFTER
returns-then-f-gt-MOST_AFTER c = search makes

pub returns-then-exponent : goal.returns-then-exponent
returns-then-exponent c = search makes

pub returns-else-f-gt-MOST_AFTER : goal.returns-else-f-gt-MOST_AFTER
returns-else-f-gt-MOST_AFTER c = search makes

pub returns-else-exponent : goal.returns-else-exponent
returns-else-exponent c = search makes
