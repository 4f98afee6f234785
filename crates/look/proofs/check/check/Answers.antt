use Rattle.look.proofs.CheckLaws.{checks}
use Rattle.look.proofs.check.check.Goals as goal

pub returns-then-not-sizes_fit-enough : goal.returns-then-not-sizes_fit-enough
returns-then-not-sizes_fit-enough c = search checks

pub returns-then-not-keeps_rule : goal.returns-then-not-keeps_rule
returns-then-not-keeps_rule c = search checks

pub returns : goal.returns
returns c = search checks
