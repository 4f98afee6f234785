use Rattle.rows.specs.Sections.{object}
use Rattle.grammar.specs.Move.{view_in}
use Rattle.tables.specs.Form as form
use Rattle.build.specs.Build.{object_row}
use Rattle.build.proofs.RowLaws.{Rowing}
use Rattle.build.proofs.object.put_objects.Given as goal

abbrev pub invariant-loop-i : goal.invariant-loop-i
invariant-loop-i l = Rowing l.initial.u form.object_section ((view_in l.t).counts object) (object_row (view_in l.t)) l.i l.u
