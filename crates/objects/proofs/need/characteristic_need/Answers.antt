use Rattle.objects.proofs.NeedLaws.{kinds}
use Rattle.objects.proofs.need.characteristic_need.Goals as goal

pub returns-then-kind : goal.returns-then-kind
returns-then-kind c = search kinds

pub returns-then-kind-2 : goal.returns-then-kind-2
returns-then-kind-2 c = search kinds

pub returns-then-kind-3 : goal.returns-then-kind-3
returns-then-kind-3 c = search kinds

pub returns : goal.returns
returns c = search kinds
