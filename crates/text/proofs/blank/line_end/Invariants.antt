use Rattle.text.proofs.BlankLaws.{InLine}
use Rattle.text.proofs.blank.line_end.Given as goal

abbrev pub invariant-loop-i : goal.invariant-loop-i
invariant-loop-i l = InLine l.s l.at l.i
