use mathlib.Core.Path.{◌≡◌}
use mathlib.Core.Bool.{true}
use Rattle.number.specs.Below.{all_below}
use Rattle.tables.proofs.LoopLaws.{formed_at}
use Rattle.rule.proofs.unused.keeps_form.Given as goal

abbrev pub invariant-loop-j : goal.invariant-loop-j
invariant-loop-j l = all_below l.j (formed_at l.t) ≡ true
