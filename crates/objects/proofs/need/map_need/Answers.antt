use Rattle.objects.proofs.NeedLaws.{axes}
use Rattle.objects.proofs.need.map_need.Goals as goal

pub returns : goal.returns
returns c = search axes
