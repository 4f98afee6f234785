use Rattle.build.proofs.RowLaws.{puttings}
use Rattle.build.proofs.row.put_numbers.Goals as goal

pub loop-n-init : goal.loop-n-init
loop-n-init c = search puttings

pub loop-n-preserved : goal.loop-n-preserved
loop-n-preserved c = search puttings
