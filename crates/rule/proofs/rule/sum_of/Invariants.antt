use mathlib.Core.Path.{◌≡◌}
use Rattle.tables.specs.Form.{tables_in}
use Rattle.number.specs.Below.{sum_below}
use Rattle.tables.specs.Group.{elements}
use Rattle.rule.proofs.rule.sum_of.Given as goal

abbrev pub invariant-loop-g : goal.invariant-loop-g
invariant-loop-g l = l.sum ≡ sum_below l.g (elements (tables_in l.t))
