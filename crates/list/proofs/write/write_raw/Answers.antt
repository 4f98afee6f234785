use mathlib.Core.Path.{refl}
use mir.Facts.{to_z-of_z}
use Rattle.std.proofs.lemmas.Result.{err_from_is_err_and}
use Rattle.list.proofs.CallLaws.{carried, not_carried, write-room, write-refused, write-raw-is}
use Rattle.list.proofs.write.write_raw.Goals as goal

pub returns-in_err-judge : goal.returns-in_err-judge
returns-in_err-judge c =
    let p = err_from_is_err_and c.from_residual.result c.from_residual.ensures.1 in
    rw (p.1, p.2) (write-refused _ _ _ _ _ _ _ _ _ _ c.in_err-judge.ensures _ c.in_err-judge.field-0.0 refl c.is_enough-enough.ensures c.room_of-lines.ensures)

pub carry_out-requires : goal.carry_out-requires
carry_out-requires c = write-room _ _ _ _ _ _ 0 _ _ c.in_ok-judge.ensures refl c.is_enough-enough.ensures c.room_of-lines.ensures

pub returns-in_err-carry_out : goal.returns-in_err-carry_out
returns-in_err-carry_out c =
    let p = err_from_is_err_and c.from_residual-in_err-carry_out.result c.from_residual-in_err-carry_out.ensures.1 in
    rw (p.1, p.2) (write-raw-is _ _ _ _ _ _ _ _ 0 _ c.in_ok-judge.ensures refl c.is_enough-enough.ensures c.room_of-lines.ensures _ c.group_of-g.ensures _ _ _ _ (to_z-of_z c.ranges.value) c.raw_wanted-wanted.ensures (not_carried _ _ _ _ _ c.carry_out.ensures c.in_err-carry_out.field-0.0 c.in_err-carry_out.was))

pub returns : goal.returns
returns c = write-raw-is _ _ _ _ _ _ _ _ 0 _ c.in_ok-judge.ensures refl c.is_enough-enough.ensures c.room_of-lines.ensures _ c.group_of-g.ensures _ _ _ _ (to_z-of_z c.ranges.value) c.raw_wanted-wanted.ensures (carried _ _ _ _ _ c.carry_out.ensures c.in_ok-carry_out.was)
