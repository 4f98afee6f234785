-- `lines::field::line_end` meets its contract. Assumes nothing.
use Rattle.lines.specs.Field.{line_end}
use Rattle.lines.proofs.field.line_end.Goals as goal

pub returns : goal.returns
unfolding line_end
returns c = c.place_from.ensures
