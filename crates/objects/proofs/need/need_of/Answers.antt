use Rattle.objects.proofs.NeedLaws.{classes}
use Rattle.objects.proofs.need.need_of.Goals as goal

pub returns-then-class : goal.returns-then-class
returns-then-class c = search classes

pub returns-then-class-2 : goal.returns-then-class-2
returns-then-class-2 c = search classes

pub returns : goal.returns
returns c = search classes
