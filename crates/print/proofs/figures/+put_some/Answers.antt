-- Each return is a law of `figs`. Assumes nothing.
use Rattle.print.proofs.PutLaws.{figs}
use Rattle.print.proofs.figures.+put_some.Goals as goal

pub returns-then-f-eq0 : goal.returns-then-f-eq0
returns-then-f-eq0 t c = search figs

pub returns-then-n-lt10 : goal.returns-then-n-lt10
returns-then-n-lt10 t c = search figs

pub returns : goal.returns
returns t c = search figs
