use Rattle.objects.proofs.ObjectLaws.{judgements}
use Rattle.objects.proofs.object.judge_one.Goals as goal

pub returns-then-mask_fits : goal.returns-then-mask_fits
returns-then-mask_fits c = search judgements

pub returns : goal.returns
returns c = search judgements
