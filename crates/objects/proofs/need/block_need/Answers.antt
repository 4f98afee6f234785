use Rattle.objects.proofs.NeedLaws.{numbers}
use Rattle.objects.proofs.need.block_need.Goals as goal

pub returns : goal.returns
returns c = search numbers
