use Rattle.tables.proofs.LoopLaws.{unuseds}
use Rattle.rule.proofs.unused.is_count.Goals as goal

pub returns : goal.returns
returns c = search unuseds
