-- `convert::method::same_products` meets its contract. Assumes nothing.
use Rattle.convert.proofs.MethodLaws.{coefficients}
use Rattle.convert.proofs.method.same_products.Goals as goal

pub overflow_mul-result : goal.overflow_mul-result
overflow_mul-result c = search coefficients

pub overflow_mul-result-2 : goal.overflow_mul-result-2
overflow_mul-result-2 c = search coefficients

pub returns : goal.returns
returns c = search coefficients
