-- `cell::kind::shape_of` meets its contract. Assumes nothing.
use native.Mathlib.Omega.{arith}
use Rattle.cell.proofs.Shapes.{shape-byte, shape-word, shape-long, shape-above, shape-none}
use Rattle.cell.proofs.kind.shape_of.Goals as goal

pub returns-in-1-to-2 : goal.returns-in-1-to-2
returns-in-1-to-2 c = shape-byte c.args.code (omega arith) (omega arith)

pub returns-in-3-to-4 : goal.returns-in-3-to-4
returns-in-3-to-4 c = shape-word c.args.code (omega arith) (omega arith)

pub returns-in-5-to-6 : goal.returns-in-5-to-6
returns-in-5-to-6 c = shape-long c.args.code (omega arith) (omega arith)

pub returns-in_default : goal.returns-in_default
returns-in_default c = shape-none c.args.code (omega arith)

pub returns-in_default-2 : goal.returns-in_default-2
returns-in_default-2 c = shape-above c.args.code (omega arith)
