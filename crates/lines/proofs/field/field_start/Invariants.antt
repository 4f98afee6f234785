-- What the loop of `lines::field::field_start` keeps.
use Rattle.lines.proofs.Fields.{Left}
use Rattle.lines.proofs.field.field_start.Given as goal

abbrev pub invariant-loop : goal.invariant-loop
invariant-loop l = Left l.s l.k l.at l.counter
