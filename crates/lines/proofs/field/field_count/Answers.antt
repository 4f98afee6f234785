-- `lines::field::field_count` meets its contract. Assumes nothing.
use Rattle.lines.proofs.Fields.{tabs}
use Rattle.lines.proofs.field.field_count.Goals as goal
use Rattle.lines.proofs.field.field_count.Goals.{then-b-eq-TAB, else-b-eq-TAB}

pub loop-b-preserved : goal.loop-b-preserved
loop-b-preserved c = elim c.if-b-eq-TAB.branch [ then-b-eq-TAB w ↦ search tabs | else-b-eq-TAB w ↦ search tabs ]

pub returns : goal.returns
returns c = search tabs
