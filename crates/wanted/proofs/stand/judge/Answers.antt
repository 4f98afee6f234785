use mathlib.Core.Path.{refl}
use Rattle.std.proofs.lemmas.Result.{err_from_is_err_and}
use Rattle.look.proofs.CheckLaws.{some_number}
use Rattle.wanted.proofs.StandLaws.{stand-refused, stand-none, stand-is}
use Rattle.wanted.proofs.stand.judge.Goals as goal

pub returns-in_err-check : goal.returns-in_err-check
returns-in_err-check c =
    let p = err_from_is_err_and c.from_residual.result c.from_residual.ensures.1 in
    rw (p.1, p.2) (stand-refused _ _ _ _ _ _ _ c.in_err-check.ensures (some_number c.in_err-check.field-0.0))

pub returns-then-not-is_element : goal.returns-then-not-is_element
returns-then-not-is_element c = stand-none _ _ _ _ _ _ 0 c.in_ok-check.ensures refl _ c.is_element.ensures c.if-not-is_element.true

pub returns : goal.returns
returns c = stand-is _ _ _ _ _ _ 0 c.in_ok-check.ensures refl _ c.is_element.ensures _ _ c.if-not-is_element.false c.group_of.ensures c.judge_element.ensures
