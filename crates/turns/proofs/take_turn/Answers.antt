use Rattle.objects.proofs.StageLaws.{turns}
use Rattle.turns.proofs.take_turn.Goals as goal

pub returns-then-is_open : goal.returns-then-is_open
returns-then-is_open c = search turns

pub returns : goal.returns
returns c = search turns
