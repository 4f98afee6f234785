use Rattle.text.proofs.SkipLaws.{InItems}
use Prim.Native.Nat.{◌-◌}
use lib.ListN.{length}
use Rattle.text.specs.Answer.{given}
use Rattle.text.specs.Skip.{a2ml_item}
use Rattle.text.proofs.cursor.Cursor.past_a2ml.Given as goal

abbrev pub invariant-loop-c : goal.invariant-loop-c
invariant-loop-c l = InItems l.s given (a2ml_item l.s) l.initial.c.at l.c.at

abbrev pub decreases-loop-c : goal.decreases-loop-c
decreases-loop-c l = length l.s - l.c.at
