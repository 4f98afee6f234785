use Rattle.grammar.proofs.ViewLaws.{views}
use Rattle.grammar.proofs.view.current_of.Goals as goal

pub count_of-requires : goal.count_of-requires
count_of-requires c = search views

pub before-requires : goal.before-requires
before-requires c = search views

pub slot_of-requires : goal.slot_of-requires
slot_of-requires c = search views

pub returns : goal.returns
returns c = search views
