use Rattle.build.proofs.ObjectLaws.{whats}
use Rattle.build.proofs.object.what_of.Goals as goal

pub returns-then-class : goal.returns-then-class
returns-then-class c = search whats

pub returns-then-class-2 : goal.returns-then-class-2
returns-then-class-2 c = search whats

pub returns : goal.returns
returns c = search whats
