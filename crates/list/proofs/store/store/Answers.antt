-- `list::store::store` meets its contract. Assumes nothing.
use Rattle.list.proofs.CallLaws.{stores}
use Rattle.list.proofs.store.store.Goals as goal

pub returns : goal.returns
returns c = search stores
