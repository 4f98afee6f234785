use Rattle.text.proofs.InnerLaws.{inner-rules}
use Rattle.text.proofs.bytes.is_inner.Goals as goal

pub returns : goal.returns
returns c = search inner-rules
