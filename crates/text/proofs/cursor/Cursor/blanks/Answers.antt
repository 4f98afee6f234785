use Rattle.std.proofs.lemmas.Result.{err_from_is_err_and}
use Rattle.text.proofs.BlankLaws.{blanks, blank-refused}
use Rattle.text.proofs.cursor.Cursor.blanks.Goals as goal

pub loop-past-init : goal.loop-past-init
loop-past-init c = search blanks

pub returns-in_err-past : goal.returns-in_err-past
returns-in_err-past c = let p = err_from_is_err_and c.from_residual.result c.from_residual.ensures.1 in rw (p.1, p.2) (blank-refused _ _ _ c.gap.ensures _ c.loop-past.invariant _ c.in_err-past.was)

pub loop-past-smaller : goal.loop-past-smaller
loop-past-smaller c = search blanks

pub loop-past-preserved : goal.loop-past-preserved
loop-past-preserved c = search blanks

pub returns : goal.returns
returns c = search blanks
