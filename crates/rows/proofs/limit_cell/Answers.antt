use Rattle.rows.proofs.TableLaws.{tables}
use Rattle.rows.proofs.limit_cell.Goals as goal

pub returns : goal.returns
returns c = search tables
