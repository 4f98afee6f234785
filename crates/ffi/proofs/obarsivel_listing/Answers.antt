-- `ffi::obarsivel_listing` meets its contract. Assumes nothing.
use Rattle.numbers.proofs.NumberLaws.{tellings}
use Rattle.ffi.proofs.obarsivel_listing.Goals as goal

pub returns : goal.returns
returns c = search tellings
