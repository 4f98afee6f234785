use mathlib.Core.Path.{◌≡◌}
use lib.Dec.{eqb}
use Rattle.number.specs.Below.{all_below}
use Rattle.tables.proofs.LoopLaws.{clear_at}
use Rattle.rule.proofs.unused.are_zero.Given as goal

abbrev pub invariant-loop-k : goal.invariant-loop-k
invariant-loop-k l = eqb l.bits 0 ≡ all_below l.k (clear_at l.t l.from)
