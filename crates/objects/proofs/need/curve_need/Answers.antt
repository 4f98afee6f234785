use Rattle.objects.proofs.NeedLaws.{axes}
use Rattle.objects.proofs.need.curve_need.Goals as goal

pub returns : goal.returns
returns c = search axes
