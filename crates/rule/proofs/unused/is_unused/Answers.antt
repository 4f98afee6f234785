use borrow.Author.Rules.{rules}
use native.Mathlib.Omega.{arith}
use Rattle.tables.proofs.LoopLaws.{unused-is, used-most, used-small}
use Rattle.rule.proofs.unused.is_unused.Goals as goal

pub overflow_sub-all : goal.overflow_sub-all
overflow_sub-all c = omega (arith, used-most c.args.t.now c.args.j c.section_of-c.result c.section_of-c.ensures c.count_of.result c.cells_of-used.result c.cells_of-all.result c.count_of.ensures c.cells_of-used.ensures c.cells_of-all.ensures, used-small c.args.t.now c.args.j c.section_of-c.result c.section_of-c.ensures c.count_of.result c.cells_of-used.result c.cells_of-all.result c.count_of.ensures c.cells_of-used.ensures c.cells_of-all.ensures (search rules) (search rules))

pub returns : goal.returns
returns c = unused-is c.args.t.now c.args.j c.section_of-c.result c.section_of-c.ensures c.count_of.result c.cells_of-used.result c.cells_of-all.result c.count_of.ensures c.cells_of-used.ensures c.cells_of-all.ensures c.are_zero.result c.are_zero.ensures
