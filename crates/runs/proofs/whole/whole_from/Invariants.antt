-- `whole_from` meets its contract. The loop keeps `Wholly`.
use Rattle.number.proofs.Wholes.{Wholly}
use Rattle.runs.proofs.whole.whole_from.Given as goal

abbrev pub invariant-loop-b : goal.invariant-loop-b
invariant-loop-b l = Wholly l.s l.base l.most l.b-index l.n
