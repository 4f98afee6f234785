use Rattle.refer.proofs.Laws.{refers}
use Rattle.refer.proofs.refer.Goals as goal

pub returns-then-is_free : goal.returns-then-is_free
returns-then-is_free c = search refers

pub returns-in_default : goal.returns-in_default
returns-in_default c = search refers

pub returns-then-r-slot_of : goal.returns-then-r-slot_of
returns-then-r-slot_of c = search refers

pub returns : goal.returns
returns c = search refers
