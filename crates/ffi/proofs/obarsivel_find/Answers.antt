-- `ffi::obarsivel_find` meets its contract. Assumes nothing.
use Rattle.numbers.proofs.NumberLaws.{tellings}
use Rattle.ffi.proofs.obarsivel_find.Goals as goal

pub returns : goal.returns
returns c = search tellings
