use Rattle.afresh.proofs.RefreshLaws.{group_lines}
use Rattle.afresh.proofs.refresh.refresh_group.Goals as goal

pub returns-then-passes : goal.returns-then-passes
returns-then-passes c = search group_lines
