-- `convert::edition::is_edition` meets its contract. Assumes nothing.
use Rattle.convert.proofs.EditionLaws.{editions}
use Rattle.convert.proofs.edition.is_edition.Goals as goal

pub overflow_cast-result : goal.overflow_cast-result
overflow_cast-result c = search editions

pub overflow_cast-result-2 : goal.overflow_cast-result-2
overflow_cast-result-2 c = search editions

pub returns : goal.returns
returns c = search editions
