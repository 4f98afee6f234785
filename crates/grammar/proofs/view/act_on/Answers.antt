use Rattle.grammar.proofs.ViewLaws.{actions}
use Rattle.grammar.proofs.view.act_on.Goals as goal

pub section_of-requires : goal.section_of-requires
section_of-requires c = search actions

pub add-requires : goal.add-requires
add-requires c = search actions

pub count_of-requires : goal.count_of-requires
count_of-requires c = search actions

pub before-i-requires : goal.before-i-requires
before-i-requires c = search actions

pub section_of-requires-2 : goal.section_of-requires-2
section_of-requires-2 c = search actions

pub put_values-requires : goal.put_values-requires
put_values-requires c = search actions

pub shape_of-t : goal.shape_of-t
shape_of-t c = search actions

pub returns : goal.returns
returns c = search actions
