-- `convert::method::is_sound` meets its contract. Assumes nothing.
use Rattle.convert.proofs.MethodLaws.{coefficients}
use Rattle.convert.proofs.method.is_sound.Goals as goal

pub all_small-requires : goal.all_small-requires
all_small-requires c = search coefficients

pub same_products-requires : goal.same_products-requires
same_products-requires c = search coefficients

pub returns-then-all_small : goal.returns-then-all_small
returns-then-all_small c = search coefficients

pub returns : goal.returns
returns c = search coefficients
