use Rattle.std.proofs.Common.{sym}
use Rattle.std.proofs.lemmas.Bool.{eqb-true, eqb-false}
use Rattle.number.proofs.Wholes.{wholly-none, wholly-end, wholly-bad, wholly-over, wholly-on}
use Rattle.runs.proofs.Most.{past-most, within-most}
use Rattle.runs.proofs.whole.whole_from.Goals as goal

pub returns-then-is_empty : goal.returns-then-is_empty
returns-then-is_empty c = wholly-none _ _ _ (eqb-true _ 0 (sym c.if-is_empty.ensures))

pub returns-then-base-d : goal.returns-then-base-d
returns-then-base-d c = wholly-bad _ _ _ _ _ c.loop-b.invariant _ c.digit_of-d.ensures c.loop-b-test.true c.if-base-d.true

pub returns-then-tens-n : goal.returns-then-tens-n
returns-then-tens-n c =
    wholly-over _ _ _ _ _ c.loop-b.invariant _ c.digit_of-d.ensures c.loop-b-test.true c.requires.0 (past-most _ _ _ _ c.if-base-d.false c.if-tens-n.true)

pub loop-b-preserved : goal.loop-b-preserved
loop-b-preserved c =
    wholly-on _ _ _ _ _ c.loop-b.invariant _ c.digit_of-d.ensures c.loop-b-test.true c.if-base-d.false (within-most _ _ _ _ c.if-base-d.false c.if-tens-n.false)

pub returns : goal.returns
returns c = wholly-end _ _ _ _ _ c.loop-b.invariant (eqb-false _ 0 (sym c.if-is_empty.ensures)) c.loop-b-test.false
