use Rattle.objects.proofs.GroundLaws.{grounds}
use Rattle.objects.proofs.ground.first_of.Goals as goal

pub returns-then-own-eq0 : goal.returns-then-own-eq0
returns-then-own-eq0 c = search grounds

pub returns : goal.returns
returns c = search grounds
