use mathlib.Core.Path.{refl}
use Rattle.std.proofs.lemmas.Result.{err_from_is_err_and}
use Rattle.look.proofs.CheckLaws.{some_number, read-refused, read_none, read_is}
use Rattle.look.proofs.read.read.Goals as goal

pub returns-in_err-check : goal.returns-in_err-check
returns-in_err-check c =
    let p = err_from_is_err_and c.from_residual.result c.from_residual.ensures.1 in
    rw (p.1, p.2) (read-refused _ _ _ _ _ _ _ c.in_err-check.ensures (some_number c.in_err-check.field-0.0))

pub returns-then-not-is_element : goal.returns-then-not-is_element
returns-then-not-is_element c = read_none _ _ _ _ _ _ 0 c.in_ok-check.ensures refl _ c.is_element.ensures c.if-not-is_element.true

pub returns : goal.returns
returns c = read_is _ _ _ _ _ _ 0 c.in_ok-check.ensures refl _ c.is_element.ensures _ _ c.if-not-is_element.false c.group_of.ensures c.reading_of.ensures
