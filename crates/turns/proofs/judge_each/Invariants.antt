use Rattle.grammar.specs.Move.{view_in}
use Rattle.objects.proofs.StageLaws.{Judging}
use Rattle.turns.proofs.judge_each.Given as goal

abbrev pub invariant-loop-i : goal.invariant-loop-i
invariant-loop-i l = Judging l.image l.base l.x (view_in l.t) l.initial.seen l.seen l.used l.i
