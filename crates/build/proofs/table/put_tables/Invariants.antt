use Rattle.rows.specs.Sections.{table}
use Rattle.grammar.specs.Move.{view_in}
use Rattle.tables.specs.Form as form
use Rattle.build.specs.Build.{table_row}
use Rattle.build.proofs.RowLaws.{Rowing}
use Rattle.build.proofs.table.put_tables.Given as goal

abbrev pub invariant-loop-i : goal.invariant-loop-i
invariant-loop-i l = Rowing l.initial.u form.table_section ((view_in l.t).counts table) (table_row (view_in l.t)) l.i l.u
