-- What the loop of `lines::field::place_from` keeps: the place that is looked for.
use mathlib.Core.Path.{◌≡◌}
use Rattle.lines.specs.Field.{place_from}
use Rattle.lines.proofs.field.place_from.Given as goal

abbrev pub invariant-loop-i : goal.invariant-loop-i
invariant-loop-i l = place_from l.b l.s l.i ≡ place_from l.b l.s l.from
