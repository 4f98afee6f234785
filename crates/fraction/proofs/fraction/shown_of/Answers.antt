-- `fraction::fraction::shown_of` meets its contract. Assumes nothing.
use mathlib.Core.Path.{ap₂, ◌∙◌}
use native.Mathlib.Omega.{arith}
use Rattle.cell.proofs.Signed.{returned}
use Rattle.convert.specs.Shown.{quotient}
use Rattle.convert.proofs.Wholes.{sized}
use Rattle.convert.proofs.Showns.{shown-real, shown-inexact, shown-words, shown-none}
use Rattle.fraction.proofs.fraction.shown_of.Goals as goal

pub returns-then-size : goal.returns-then-size
returns-then-size c =
    let p = c.args.p in
    shown-real p (sized p.first (omega arith) c.size.ensures) (sized p.second (omega arith) c.size-in-1.ensures) c.in-1.is c.if-size.true
    (c.quotient_of.ensures ∙ ap₂ quotient (returned p.first (omega arith)) (returned p.second (omega arith)))

pub returns-else-size : goal.returns-else-size
returns-else-size c =
    let p = c.args.p in
    shown-inexact p (sized p.first (omega arith) c.size.ensures) (sized p.second (omega arith) c.size-in-1.ensures) c.in-1.is c.if-size.false

pub returns-in-2 : goal.returns-in-2
returns-in-2 c =
    let p = c.args.p in
    shown-words p (sized p.first (omega arith) c.size-in-2.ensures) (sized p.second (omega arith) c.size-in-2-2.ensures) c.in-2.is

pub returns-in_default : goal.returns-in_default
returns-in_default c = shown-none c.args.p (omega arith) (omega arith)
