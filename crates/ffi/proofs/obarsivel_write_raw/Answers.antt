-- `ffi::obarsivel_write_raw` meets its contract. Assumes nothing.
use lib.ListN.{length}
use mir.Facts.{to_z-of_z}
use Rattle.look.specs.Calls.{kept}
use Rattle.numbers.proofs.NumberLaws.{write-told}
use Rattle.ffi.proofs.obarsivel_write_raw.Goals as goal

pub returns : goal.returns
returns c =
    let s = c in
    let w = c.write_raw-written in
    let a = s.args in
    write-told _ _ w.result (kept a.image.now a.raw.now a.state.now a.first.now a.second.now) _ a.tables.now (length a.text.now) a.base a.object a.part a.index _ a.value
    c.call_number.ensures c.by_number.ensures w.ensures (to_z-of_z s.ranges.value)
