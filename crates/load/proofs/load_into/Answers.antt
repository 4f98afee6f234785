use Rattle.std.proofs.lemmas.Result.{err_from_is_err_and}
use Rattle.load.proofs.LoadLaws.{intos, into-refused}
use Rattle.load.proofs.load_into.Goals as goal

pub returns-in_err-read : goal.returns-in_err-read
returns-in_err-read c =
    let p = err_from_is_err_and c.from_residual.result c.from_residual.ensures.1 in
    rw (p.1, p.2) (into-refused _ _ _ _ _ _ _ c.requires.1 c.clear.ensures _ c.read.ensures _ c.in_err-read.was)

pub returns : goal.returns
returns c = search intos
