use Rattle.methods.proofs.Laws.{methods}
use Rattle.methods.proofs.coefficients_of.Goals as goal

pub slot_of-kind-requires : goal.slot_of-kind-requires
slot_of-kind-requires c = search methods

pub overflow_cast-t-4 : goal.overflow_cast-t-4
overflow_cast-t-4 c = search methods

pub linear_at-requires : goal.linear_at-requires
linear_at-requires c = search methods

pub returns-then-kind : goal.returns-then-kind
returns-then-kind c = search methods

pub overflow_cast-t-4-2 : goal.overflow_cast-t-4-2
overflow_cast-t-4-2 c = search methods

pub rat_func_at-requires : goal.rat_func_at-requires
rat_func_at-requires c = search methods

pub returns-then-kind-2 : goal.returns-then-kind-2
returns-then-kind-2 c = search methods

pub identical-requires : goal.identical-requires
identical-requires c = search methods

pub returns : goal.returns
returns c = search methods
