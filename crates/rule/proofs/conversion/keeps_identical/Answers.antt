use Rattle.tables.proofs.WordLaws.{conversions}
use Rattle.rule.proofs.conversion.keeps_identical.Goals as goal

pub returns : goal.returns
returns c = search conversions
