-- What the loop of `judge::walk::place_sorted` keeps.
use Rattle.place.proofs.Steps.{Sorting}
use Rattle.judge.proofs.walk.place_sorted.Given as goal

abbrev pub invariant-loop-p : goal.invariant-loop-p
invariant-loop-p l = Sorting l.g l.n l.image l.fn.l l.p-items l.p-index l.s
