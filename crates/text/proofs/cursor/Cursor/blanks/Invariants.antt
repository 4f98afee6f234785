use Rattle.text.proofs.BlankLaws.{InBlanks}
use Prim.Native.Nat.{◌-◌}
use lib.ListN.{length}
use Rattle.text.proofs.cursor.Cursor.blanks.Given as goal

abbrev pub invariant-loop-past : goal.invariant-loop-past
invariant-loop-past l = InBlanks l.s l.initial.c.at l.c.at

abbrev pub decreases-loop-past : goal.decreases-loop-past
decreases-loop-past l = length l.s - l.c.at
