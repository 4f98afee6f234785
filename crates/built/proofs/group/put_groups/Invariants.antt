use Rattle.grammar.specs.Move.{view_in}
use Rattle.build.proofs.GroupLaws.{Grouping}
use Rattle.built.proofs.group.put_groups.Given as goal

abbrev pub invariant-loop-i : goal.invariant-loop-i
invariant-loop-i l = Grouping l.image l.base l.x (view_in l.t) l.initial.u l.i l.u
