use Rattle.listing.proofs.LineLaws.{fractions}
use Rattle.listing.proofs.line.put_fraction.Goals as goal

pub returns : goal.returns
returns c = search fractions
