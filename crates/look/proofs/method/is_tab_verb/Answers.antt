-- `look::method::is_tab_verb` meets its contract. Assumes nothing.
use Rattle.look.proofs.MethodLaws.{methods}
use Rattle.look.proofs.method.is_tab_verb.Goals as goal

pub returns-then-m-eq0 : goal.returns-then-m-eq0
returns-then-m-eq0 c = search methods

pub returns : goal.returns
returns c = search methods
