use Rattle.objects.proofs.LayoutLaws.{parts}
use Rattle.objects.proofs.layout.measured.Goals as goal

pub returns : goal.returns
returns c = search parts
