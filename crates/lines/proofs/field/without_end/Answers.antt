use Rattle.std.proofs.Common.{◌≤◌, length, arith}
use lib.Seq.{length-take-le}
use mathlib.Core.Path.{sym, ◌∙◌}
use Rattle.lines.specs.Field.{line_end}
use Rattle.lines.proofs.Fields.{span-low}
use Rattle.lines.proofs.field.without_end.Goals as goal

pub slice_bounds-result-end : goal.slice_bounds-result-end
unfolding line_end
slice_bounds-result-end c =
    let within : c.line_end.result ≤ length c.args.line.now = span-low 10 c.args.line.now 0 c.line_end.result (omega arith) c.line_end.ensures in
    sym (length-take-le c.line_end.result c.args.line.now within)
