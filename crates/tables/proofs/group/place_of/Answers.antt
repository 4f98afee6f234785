use Rattle.tables.proofs.GroupLaws.{stores}
use Rattle.tables.proofs.group.place_of.Goals as goal

pub returns : goal.returns
returns c = search stores
