use Rattle.objects.proofs.BasisLaws.{bases}
use Rattle.objects.proofs.basis.basis_of.Goals as goal

pub returns-then-slot_of : goal.returns-then-slot_of
returns-then-slot_of c = search bases

pub returns : goal.returns
returns c = search bases
