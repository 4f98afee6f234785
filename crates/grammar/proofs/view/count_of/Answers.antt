use Rattle.grammar.proofs.ViewLaws.{views}
use Rattle.grammar.proofs.view.count_of.Goals as goal

pub section_of-requires : goal.section_of-requires
section_of-requires c = search views

pub count-requires : goal.count-requires
count-requires c = search views

pub returns : goal.returns
returns c = search views
