use Rattle.rows.proofs.TableLaws.{tables}
use Rattle.rows.proofs.param_cell.Goals as goal

pub returns : goal.returns
returns c = search tables
