use Rattle.std.proofs.lemmas.Result.{err_from_is_err_and}
use Rattle.grammar.proofs.ReadLaws.{readings, reading-refused}
use Rattle.engine.proofs.read.read_on.Goals as goal

pub returns-in_err-next : goal.returns-in_err-next
returns-in_err-next c =
    let p = err_from_is_err_and c.from_residual.result c.from_residual.ensures.1 in
    rw (p.1, p.2) (reading-refused _ _ _ _ _ _ _ c.loop-i.invariant c.loop-i-test.true _ c.move_of.ensures _ c.in_err-next.was)

pub returns-in-Over : goal.returns-in-Over
returns-in-Over c = search readings

pub loop-i-preserved : goal.loop-i-preserved
loop-i-preserved c = search readings

pub returns : goal.returns
returns c = search readings
