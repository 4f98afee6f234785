use Rattle.listing.proofs.LineLaws.{lines}
use Rattle.listing.proofs.line.put_values.Goals as goal

pub returns : goal.returns
returns c = search lines
