use Rattle.tables.proofs.TestLaws.{tests}
use Rattle.rule.proofs.test.is_text.Goals as goal

pub returns : goal.returns
returns c = search tests
