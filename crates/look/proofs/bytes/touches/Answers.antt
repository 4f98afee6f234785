-- `look::bytes::touches` meets its contract. Assumes nothing.
use Rattle.look.proofs.BytesLaws.{commons}
use Rattle.look.proofs.bytes.touches.Goals as goal

pub returns : goal.returns
returns c = search commons
