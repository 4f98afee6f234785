-- `convert::edition::goes_up` meets its contract. Assumes nothing.
use Rattle.convert.proofs.EditionLaws.{editions}
use Rattle.convert.proofs.edition.goes_up.Goals as goal

pub overflow_cast-t-3 : goal.overflow_cast-t-3
overflow_cast-t-3 c = search editions

pub returns-then-edition : goal.returns-then-edition
returns-then-edition c = search editions

pub returns : goal.returns
returns c = search editions
