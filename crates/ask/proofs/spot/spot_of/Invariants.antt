-- `spot_of` meets its contract. The loop keeps `Counting`.
use Rattle.ask.proofs.Spots.{Counting}
use Rattle.ask.proofs.spot.spot_of.Given as goal

abbrev pub invariant-loop-i : goal.invariant-loop-i
invariant-loop-i l = Counting l.x l.place l.i l.line l.column
