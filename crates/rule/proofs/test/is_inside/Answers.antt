use Rattle.tables.proofs.TestLaws.{tests}
use Rattle.rule.proofs.test.is_inside.Goals as goal

pub returns : goal.returns
returns c = search tests
