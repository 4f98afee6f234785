use Rattle.build.proofs.ObjectLaws.{types}
use Rattle.build.proofs.object.type_of.Goals as goal

pub returns-then-kind : goal.returns-then-kind
returns-then-kind c = search types

pub returns-then-kind-2 : goal.returns-then-kind-2
returns-then-kind-2 c = search types

pub returns-then-kind-3 : goal.returns-then-kind-3
returns-then-kind-3 c = search types

pub returns : goal.returns
returns c = search types
