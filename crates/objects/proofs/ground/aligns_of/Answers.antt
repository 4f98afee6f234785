use Rattle.objects.proofs.GroundLaws.{grounds}
use Rattle.objects.proofs.ground.aligns_of.Goals as goal

pub returns : goal.returns
returns c = search grounds
