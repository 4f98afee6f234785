use Rattle.ask.proofs.Spots.{counting-end, spots}
use Rattle.ask.proofs.spot.spot_of.Goals as goal
use Rattle.ask.proofs.spot.spot_of.Goals.{then-x-i-eq10, else-x-i-eq10}

pub loop-i-init : goal.loop-i-init
loop-i-init c = search spots

pub overflow_add-line : goal.overflow_add-line
overflow_add-line c = search spots

pub overflow_add-column : goal.overflow_add-column
overflow_add-column c = search spots

pub loop-i-preserved : goal.loop-i-preserved
loop-i-preserved c = elim c.if-x-i-eq10.branch [ then-x-i-eq10 w ↦ search spots | else-x-i-eq10 w ↦ search spots ]

pub returns : goal.returns
returns c = counting-end _ _ _ _ _ c.loop-i.invariant _ c.min-i-end.ensures c.loop-i-test.false
