use native.Mathlib.Omega.{arith}
use Rattle.cell.proofs.Shapes.{bytes-of}
use Rattle.tables.proofs.group.type_bytes.Goals as goal

pub overflow_cast-result : goal.overflow_cast-result
overflow_cast-result c = omega (arith, bytes-of c.args.kind c.shape_of.result c.shape_of.ensures)
