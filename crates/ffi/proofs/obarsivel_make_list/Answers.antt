-- `ffi::obarsivel_make_list` meets its contract. Assumes nothing.
use Rattle.numbers.proofs.NumberLaws.{tellings}
use Rattle.ffi.proofs.obarsivel_make_list.Goals as goal

pub returns : goal.returns
returns c = search tellings
