use Rattle.std.proofs.Common.{rules}
use Rattle.std.proofs.lemmas.Result.{err_from_is_err_and}
use Rattle.objects.proofs.StageLaws.{judgings, judging-on, judging-stop}
use Rattle.turns.proofs.judge_each.Goals as goal

pub returns-in_err-used : goal.returns-in_err-used
returns-in_err-used c =
    let p = err_from_is_err_and c.from_residual.result c.from_residual.ensures.1 in
    rw (p.1, p.2) (judging-stop _ _ _ _ _ _ _ _ _ c.count_of-i-end.ensures c.loop-i.invariant c.loop-i-test.true _ _ c.take_turns.ensures _ c.in_err-used.was)

pub loop-i-preserved : goal.loop-i-preserved
loop-i-preserved c = judging-on _ _ _ _ _ _ _ _ _ c.count_of-i-end.ensures c.loop-i.invariant c.loop-i-test.true _ _ c.take_turns.ensures _ c.in_ok-used.was (search rules)

pub returns : goal.returns
returns c = search judgings
