use Rattle.text.proofs.TokenLaws.{names}
use Rattle.text.proofs.token.name_end.Goals as goal

pub loop-i-init : goal.loop-i-init
loop-i-init c = search names

pub returns-then-not-in_name : goal.returns-then-not-in_name
returns-then-not-in_name c = search names

pub loop-i-preserved : goal.loop-i-preserved
loop-i-preserved c = search names

pub returns : goal.returns
returns c = search names
