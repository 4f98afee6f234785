use Rattle.objects.proofs.StageLaws.{later-on}
use Rattle.turns.proofs.take_later.Goals as goal

pub returns : goal.returns
returns c = later-on _ _ _ _ _ _ _ _ _ c.take_named.ensures _ c.in_ok-n.was _ _ c.take_turn.ensures.0 c.take_turn.ensures.1
