-- `wanted::stored::store_raw` meets its contract. Assumes nothing.
use Rattle.wanted.proofs.WantedLaws.{stores}
use Rattle.wanted.proofs.stored.store_raw.Goals as goal

pub returns : goal.returns
returns c = search stores
