use Rattle.objects.proofs.NeedLaws.{numbers}
use Rattle.objects.proofs.need.shared_by.Goals as goal

pub returns : goal.returns
returns c = search numbers
