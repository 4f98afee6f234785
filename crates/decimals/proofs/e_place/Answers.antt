use Rattle.decimals.proofs.RunLaws.{stands}
use Rattle.decimals.proofs.e_place.Goals as goal

pub loop-i-init : goal.loop-i-init
loop-i-init c = search stands

pub returns-then-is_e : goal.returns-then-is_e
returns-then-is_e c = search stands

pub loop-i-preserved : goal.loop-i-preserved
loop-i-preserved c = search stands

pub returns : goal.returns
returns c = search stands
