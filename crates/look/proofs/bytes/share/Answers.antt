-- `look::bytes::share` meets its contract. Assumes nothing.
use Rattle.look.proofs.BytesLaws.{commons}
use Rattle.look.proofs.bytes.share.Goals as goal

pub returns : goal.returns
returns c = search commons
