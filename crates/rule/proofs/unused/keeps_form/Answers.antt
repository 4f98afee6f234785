use Rattle.tables.proofs.LoopLaws.{forms}
use Rattle.rule.proofs.unused.keeps_form.Goals as goal

pub loop-j-init : goal.loop-j-init
loop-j-init c = search forms

pub loop-j-preserved : goal.loop-j-preserved
loop-j-preserved c = search forms

pub returns-then-not-is_count-is_unused : goal.returns-then-not-is_count-is_unused
returns-then-not-is_count-is_unused c = search forms

pub returns : goal.returns
returns c = search forms
