use Rattle.rows.specs.Sections.{method}
use Rattle.grammar.specs.Move.{view_in}
use Rattle.tables.specs.Form as form
use Rattle.build.specs.Build.{method_row}
use Rattle.build.proofs.RowLaws.{Rowing}
use Rattle.build.proofs.method.put_methods.Given as goal

abbrev pub invariant-loop-i : goal.invariant-loop-i
invariant-loop-i l = Rowing l.initial.u form.method_section ((view_in l.t).counts method) (method_row l.x (view_in l.t)) l.i l.u
