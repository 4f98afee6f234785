-- `ffi::obarsivel_load` meets its contract. Assumes nothing.
use Rattle.numbers.proofs.NumberLaws.{tellings}
use Rattle.ffi.proofs.obarsivel_load.Goals as goal

pub load-requires : goal.load-requires
load-requires c = search tellings

pub load_number-requires : goal.load_number-requires
load_number-requires c = search tellings

pub shape_of-tables : goal.shape_of-tables
shape_of-tables c = search tellings

pub shape_of-work : goal.shape_of-work
shape_of-work c = search tellings

pub returns : goal.returns
returns c = search tellings
