use native.Mathlib.Omega.{arith}
use borrow.Author.Rules.{rules}
use Rattle.tables.specs.Form.{tables_in}
use Rattle.tables.proofs.LoopLaws.{sum-small, sums}
use Rattle.rule.proofs.rule.sum_of.Goals as goal

pub loop-g-init : goal.loop-g-init
loop-g-init c = search sums

pub overflow_add-sum : goal.overflow_add-sum
overflow_add-sum c = omega (arith, sum-small (tables_in c.args.t.now) c.loop-g.g c.loop-g.sum c.elements_of-sum.result c.loop-g.invariant c.elements_of-sum.ensures (search rules))

pub loop-g-preserved : goal.loop-g-preserved
loop-g-preserved c = search sums
