use Rattle.grammar.proofs.ViewLaws.{valued}
use Rattle.grammar.proofs.view.put_values.Goals as goal

pub overflow_cast-k : goal.overflow_cast-k
overflow_cast-k c = search valued

pub put_two-requires : goal.put_two-requires
put_two-requires c = search valued

pub shape_of-t-then-many-lt3 : goal.shape_of-t-then-many-lt3
shape_of-t-then-many-lt3 c = search valued

pub returns-then-many-lt3 : goal.returns-then-many-lt3
returns-then-many-lt3 c = search valued

pub put_two-requires-2 : goal.put_two-requires-2
put_two-requires-2 c = search valued

pub overflow_add-k : goal.overflow_add-k
overflow_add-k c = search valued

pub overflow_sub-many : goal.overflow_sub-many
overflow_sub-many c = search valued

pub put_two-requires-3 : goal.put_two-requires-3
put_two-requires-3 c = search valued

pub shape_of-t : goal.shape_of-t
shape_of-t c = search valued

pub returns : goal.returns
returns c = search valued
