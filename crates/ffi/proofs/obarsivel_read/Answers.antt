use borrow.Author.Rules.{rules}
use Rattle.numbers.proofs.ReadingLaws.{read-given, reads}
use Rattle.ffi.proofs.obarsivel_read.Goals as goal

pub returns-then-not-has_room : goal.returns-then-not-has_room
returns-then-not-has_room c = search reads

pub returns-in-Ok : goal.returns-in-Ok
returns-in-Ok c = read-given _ _ _ _ c.has_room.ensures (search rules) _ c.read.ensures _ _ c.in-Ok.r _ (search rules) (search rules) c.put_reading.ensures

pub returns-in-Err : goal.returns-in-Err
returns-in-Err c = search reads
