-- What the loop of `lines::field::field_count` keeps.
use Rattle.lines.proofs.Fields.{Tabs}
use Rattle.lines.proofs.field.field_count.Given as goal

abbrev pub invariant-loop-b : goal.invariant-loop-b
invariant-loop-b l = Tabs l.s l.b-index l.count
