use Rattle.std.proofs.lemmas.Result.{err_from_is_err_and}
use Rattle.text.proofs.SkipLaws.{in-a2ml, in-a2ml-on, in-a2ml-closed, in-a2ml-refused}
use Rattle.text.proofs.cursor.Cursor.past_a2ml.Goals as goal

pub loop-c-init : goal.loop-c-init
loop-c-init c = search in-a2ml

pub returns-in_err-past : goal.returns-in_err-past
returns-in_err-past c = let p = err_from_is_err_and c.from_residual.result c.from_residual.ensures.1 in rw (p.1, p.2) (in-a2ml-refused _ _ _ c.a2ml_item.ensures c.loop-c-test.true _ c.loop-c.invariant _ c.in_err-past.was)

pub loop-c-smaller : goal.loop-c-smaller
loop-c-smaller c = search in-a2ml

pub loop-c-preserved : goal.loop-c-preserved
loop-c-preserved c = in-a2ml-on _ _ _ c.a2ml_item.ensures c.loop-c-test.true _ c.loop-c.invariant _ _ c.in_ok-past.was c.in-Past.is

pub returns-in-Closes : goal.returns-in-Closes
returns-in-Closes c = in-a2ml-closed _ _ _ c.a2ml_item.ensures c.loop-c-test.true _ c.loop-c.invariant _ _ c.in_ok-past.was c.in-Closes.is

pub returns : goal.returns
returns c = search in-a2ml
