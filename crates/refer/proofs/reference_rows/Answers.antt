use Rattle.std.proofs.Common.{rules}
use Rattle.refer.specs.Refer.{reference_rows, inner_rows}
use Rattle.refer.proofs.reference_rows.Goals as goal

pub returns : goal.returns
unfolding reference_rows inner_rows
returns c = search rules
