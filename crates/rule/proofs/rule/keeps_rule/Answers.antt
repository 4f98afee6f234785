use Rattle.tables.proofs.LoopLaws.{forms}
use Rattle.rule.proofs.rule.keeps_rule.Goals as goal

pub returns-then-keeps_form : goal.returns-then-keeps_form
returns-then-keeps_form c = search forms

pub returns : goal.returns
returns c = search forms
