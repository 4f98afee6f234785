use Rattle.tables.proofs.WordLaws.{conversions}
use Rattle.rule.proofs.conversion.keeps_word.Goals as goal

pub returns-in-19 : goal.returns-in-19
returns-in-19 c = search conversions

pub returns-in-20 : goal.returns-in-20
returns-in-20 c = search conversions

pub returns-in_default : goal.returns-in_default
returns-in_default c = search conversions
