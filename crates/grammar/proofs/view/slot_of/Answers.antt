use Rattle.grammar.proofs.ViewLaws.{views}
use Rattle.grammar.proofs.view.slot_of.Goals as goal

pub section_of-requires : goal.section_of-requires
section_of-requires c = search views

pub slot-requires : goal.slot-requires
slot-requires c = search views

pub returns : goal.returns
returns c = search views
