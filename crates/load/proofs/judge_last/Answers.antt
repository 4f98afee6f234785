use Rattle.std.proofs.lemmas.Result.{err_from_is_err_and}
use Rattle.load.proofs.LoadLaws.{last-fine, last-refused}
use Rattle.load.proofs.judge_last.Goals as goal

pub returns-in_err-convert_all : goal.returns-in_err-convert_all
returns-in_err-convert_all c =
    let p = err_from_is_err_and c.from_residual.result c.from_residual.ensures.1 in
    rw (p.1, p.2) (last-refused _ _ _ _ _ c.convert_all.ensures _ c.in_err-convert_all.was)

pub returns : goal.returns
returns c = last-fine _ _ _ _ _ c.convert_all.ensures _ _ c.in_ok-convert_all.was c.judge_all.ensures
