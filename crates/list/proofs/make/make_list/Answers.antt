use mathlib.Core.Path.{refl}
use Rattle.std.proofs.lemmas.Result.{err_from_is_err_and}
use Rattle.list.proofs.CallLaws.{make-room, make-refused, make-done}
use Rattle.list.proofs.make.make_list.Goals as goal

pub returns-in_err-check : goal.returns-in_err-check
returns-in_err-check c =
    let p = err_from_is_err_and c.from_residual.result c.from_residual.ensures.1 in
    rw (p.1, p.2) (make-refused _ _ _ _ _ _ _ c.in_err-check.ensures c.in_err-check.field-0.0 refl c.is_enough.ensures c.room_of-lines.ensures)

pub refresh-requires : goal.refresh-requires
refresh-requires c = make-room _ _ _ 0 _ _ c.in_ok-check.ensures refl c.is_enough.ensures c.room_of-lines.ensures

pub returns : goal.returns
returns c = make-done _ _ _ _ _ 0 _ c.in_ok-check.ensures _ refl c.is_enough.ensures c.room_of-lines.ensures c.refresh.ensures
