use Rattle.build.proofs.RowLaws.{rows}
use Rattle.build.proofs.row.put_row.Goals as goal

pub returns : goal.returns
returns c = search rows
