use Rattle.objects.proofs.LayoutLaws.{parts}
use Rattle.objects.proofs.layout.layout_number.Goals as goal

pub returns : goal.returns
returns c = search parts
