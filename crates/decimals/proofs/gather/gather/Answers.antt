-- Each turn takes a digit more, or ends.
use Rattle.std.proofs.Common.{arith}
use Rattle.number.proofs.ExponentLaws.{handed}
use Rattle.decimals.proofs.GatherLaws.{gather-past, gather-stop, gather-over, gather-on}
use Rattle.decimals.proofs.gather.gather.Goals as goal

pub returns-then-d-ge10 : goal.returns-then-d-ge10
returns-then-d-ge10 c = gather-stop _ _ _ _ _ c.loop-i.invariant _ c.digit_of-d.ensures c.loop-i-test.true c.if-d-ge10.true

pub returns-in_err-part : goal.returns-in_err-part
returns-in_err-part c =
    rw (handed _ c.from_residual.ensures.0)
    (gather-over _ _ _ _ _ c.loop-i.invariant _ c.digit_of-d.ensures c.loop-i-test.true c.if-d-ge10.false c.in_err-part.ensures)

pub loop-i-preserved : goal.loop-i-preserved
loop-i-preserved c = gather-on _ _ _ _ _ c.loop-i.invariant _ c.digit_of-d.ensures c.loop-i-test.true c.if-d-ge10.false _ c.in_ok-part.ensures

pub returns : goal.returns
returns c = gather-past _ _ _ _ _ c.loop-i.invariant _ (λ h. omega (arith, h)) c.loop-i-test.false c.max.ensures
