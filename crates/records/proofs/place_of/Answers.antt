use borrow.Author.Rules.{rules}
use native.Mathlib.Omega.{arith}
use Rattle.records.proofs.OpLaws.{product}
use Rattle.records.proofs.place_of.Goals as goal

-- src/lib.rt:44:30
pub overflow_mul-result : goal.overflow_mul-result
overflow_mul-result c = omega (arith, product c.args.c.width c.args.i (search rules) (search rules))

-- src/lib.rt:44:26
pub overflow_add-result : goal.overflow_add-result
overflow_add-result c = omega (arith, product c.args.c.width c.args.i (search rules) (search rules))

-- src/lib.rt:44:26
pub overflow_add-result-2 : goal.overflow_add-result-2
overflow_add-result-2 c = omega (arith, product c.args.c.width c.args.i (search rules) (search rules))

-- src/lib.rt:44:5
pub overflow_add-result-3 : goal.overflow_add-result-3
overflow_add-result-3 c = omega (arith, product c.args.c.width c.args.i (search rules) (search rules))
