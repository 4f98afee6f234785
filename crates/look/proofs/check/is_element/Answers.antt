use Rattle.look.proofs.CheckLaws.{named-elements}
use Rattle.look.proofs.check.is_element.Goals as goal

pub returns : goal.returns
returns c = search named-elements
