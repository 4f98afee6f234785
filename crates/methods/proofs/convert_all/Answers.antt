use Rattle.methods.proofs.Laws.{convertings}
use Rattle.methods.proofs.convert_all.Goals as goal

pub returns-then-is_err : goal.returns-then-is_err
returns-then-is_err c = search convertings

pub loop-i-preserved : goal.loop-i-preserved
loop-i-preserved c = search convertings

pub returns : goal.returns
returns c = search convertings
