use Rattle.grammar.proofs.ViewLaws.{twos}
use Rattle.grammar.proofs.view.put_two.Goals as goal

pub returns-then-many-eq0 : goal.returns-then-many-eq0
returns-then-many-eq0 c = search twos

pub put-requires : goal.put-requires
put-requires c = search twos

pub shape_of-t-then-many-eq1 : goal.shape_of-t-then-many-eq1
shape_of-t-then-many-eq1 c = search twos

pub returns-then-many-eq1 : goal.returns-then-many-eq1
returns-then-many-eq1 c = search twos

pub overflow_add-k : goal.overflow_add-k
overflow_add-k c = search twos

pub put-requires-then-k-lt65535 : goal.put-requires-then-k-lt65535
put-requires-then-k-lt65535 c = search twos

pub shape_of-t-then-k-lt65535 : goal.shape_of-t-then-k-lt65535
shape_of-t-then-k-lt65535 c = search twos

pub returns-then-k-lt65535 : goal.returns-then-k-lt65535
returns-then-k-lt65535 c = search twos

pub shape_of-t-else-k-lt65535 : goal.shape_of-t-else-k-lt65535
shape_of-t-else-k-lt65535 c = search twos

pub returns-else-k-lt65535 : goal.returns-else-k-lt65535
returns-else-k-lt65535 c = search twos
