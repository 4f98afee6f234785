use Prim.Native.Nat.{◌-◌}
use Rattle.build.proofs.RowLaws.{rowings}
use Rattle.build.proofs.table.put_entries.Goals as goal

pub loop-i-init : goal.loop-i-init
loop-i-init c = search rowings

pub loop-i-preserved : goal.loop-i-preserved
loop-i-preserved c = search rowings
