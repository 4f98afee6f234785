use Rattle.text.proofs.ByteLaws.{sames}
use Rattle.text.proofs.bytes.same_for.Goals as goal

pub returns-then-byte_at : goal.returns-then-byte_at
returns-then-byte_at c = search sames

pub loop-i-preserved : goal.loop-i-preserved
loop-i-preserved c = search sames

pub returns : goal.returns
returns c = search sames
