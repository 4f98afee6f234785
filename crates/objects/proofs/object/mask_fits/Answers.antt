use Rattle.objects.proofs.ObjectLaws.{judgements}
use Rattle.objects.proofs.object.mask_fits.Goals as goal

pub returns : goal.returns
returns c = search judgements
