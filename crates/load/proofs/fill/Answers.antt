use Rattle.std.proofs.lemmas.Result.{err_from_is_err_and}
use Rattle.load.proofs.LoadLaws.{fill-accepted, fill-refused}
use Rattle.load.proofs.fill.Goals as goal

pub returns-in_err-elements : goal.returns-in_err-elements
returns-in_err-elements c =
    let p = err_from_is_err_and c.from_residual.result c.from_residual.ensures.1 in
    rw (p.1, p.2) (fill-refused _ _ _ _ _ c.judge_records.ensures _ _ c.in_err-elements.was c.requires.0)

pub returns : goal.returns
returns c = fill-accepted _ _ _ _ _ c.judge_records.ensures _ _ _ c.in_ok-elements.was c.build.ensures
