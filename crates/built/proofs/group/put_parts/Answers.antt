use Rattle.build.proofs.GroupLaws.{parts}
use Rattle.built.proofs.group.put_parts.Goals as goal

pub returns : goal.returns
returns c = search parts
