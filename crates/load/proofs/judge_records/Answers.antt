use Rattle.std.proofs.lemmas.Result.{err_from_is_err_and}
use Rattle.load.proofs.LoadLaws.{all-fine, all-refused}
use Rattle.load.proofs.judge_records.Goals as goal

pub returns-in_err-refer_all : goal.returns-in_err-refer_all
returns-in_err-refer_all c =
    let p = err_from_is_err_and c.from_residual.result c.from_residual.ensures.1 in
    rw (p.1, p.2) (all-refused _ _ _ _ _ c.refer_all.ensures _ c.in_err-refer_all.was)

pub returns : goal.returns
returns c = all-fine _ _ _ _ _ c.refer_all.ensures _ _ c.in_ok-refer_all.was c.judge_last.ensures
