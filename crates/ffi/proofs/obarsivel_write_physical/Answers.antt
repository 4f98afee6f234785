-- `ffi::obarsivel_write_physical` meets its contract. Assumes nothing.
use Rattle.numbers.proofs.NumberLaws.{tellings}
use Rattle.ffi.proofs.obarsivel_write_physical.Goals as goal

pub returns : goal.returns
returns c = search tellings
