-- `judge::walk::place_one` meets its contract. Assumes nothing.
use Rattle.place.specs.Walk.{place_one}
use Rattle.place.proofs.Steps.{ones}
use Rattle.judge.proofs.walk.place_one.Goals as goal

pub reached-requires : goal.reached-requires
reached-requires c = search ones

pub reached-requires-in-PointsX : goal.reached-requires-in-PointsX
reached-requires-in-PointsX c = search ones

pub reached-requires-in-PointsY : goal.reached-requires-in-PointsY
reached-requires-in-PointsY c = search ones

pub returns-in_err-cx-in-CountX : goal.returns-in_err-cx-in-CountX
returns-in_err-cx-in-CountX c = search ones

pub reached-requires-in-CountX : goal.reached-requires-in-CountX
reached-requires-in-CountX c = search ones

pub returns-in_err-cy-in-CountY : goal.returns-in_err-cy-in-CountY
returns-in_err-cy-in-CountY c = search ones

pub reached-requires-in-CountY : goal.reached-requires-in-CountY
reached-requires-in-CountY c = search ones

pub returns-in-Values : goal.returns-in-Values
returns-in-Values c = search ones

pub returns-in-PointsX : goal.returns-in-PointsX
returns-in-PointsX c = search ones

pub returns-in-PointsY : goal.returns-in-PointsY
returns-in-PointsY c = search ones

pub returns-in_ok-cx-in-CountX : goal.returns-in_ok-cx-in-CountX
unfolding place_one
returns-in_ok-cx-in-CountX c = search ones

pub returns-in_ok-cy-in-CountY : goal.returns-in_ok-cy-in-CountY
unfolding place_one
returns-in_ok-cy-in-CountY c = search ones
