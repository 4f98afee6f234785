-- `judge` meets its contract.
use Rattle.convert.proofs.MethodLaws.{coefficients}
use Rattle.convert.proofs.method.judge.Goals as goal

pub returns-then-is_sound : goal.returns-then-is_sound
returns-then-is_sound c = search coefficients

pub returns : goal.returns
returns c = search coefficients
