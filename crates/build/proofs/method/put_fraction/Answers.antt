use Rattle.build.proofs.MethodLaws.{fractions}
use Rattle.build.proofs.method.put_fraction.Goals as goal

pub returns : goal.returns
returns c = search fractions
