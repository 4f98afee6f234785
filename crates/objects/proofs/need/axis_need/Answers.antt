use Rattle.objects.proofs.NeedLaws.{axes}
use Rattle.objects.proofs.need.axis_need.Goals as goal

pub returns-then-slot_of : goal.returns-then-slot_of
returns-then-slot_of c = search axes

pub returns : goal.returns
returns c = search axes
