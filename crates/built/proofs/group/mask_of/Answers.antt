use Rattle.build.proofs.GroupLaws.{masks}
use Rattle.built.proofs.group.mask_of.Goals as goal

pub returns-then-slot_of-eq0 : goal.returns-then-slot_of-eq0
returns-then-slot_of-eq0 c = search masks

pub returns : goal.returns
returns c = search masks
