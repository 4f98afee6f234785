use native.Mathlib.Omega.{arith}
use Rattle.rule.proofs.Zeros.{zeros-none, zeros-are}
use Rattle.rule.proofs.unused.has_zeros.Goals as goal

pub returns-then-c-i : goal.returns-then-c-i
returns-then-c-i c =
    let a = c.args in
    zeros-none a.t.now a.j a.i a.from a.many c.section_of-c.result c.section_of-c.ensures c.if-c-i.true

pub returns : goal.returns
returns c =
    let a = c.args in
    zeros-are a.t.now a.j a.i a.from a.many c.section_of-c.result c.section_of-c.ensures c.are_zero.result _ _ c.if-c-i.false (omega arith)
    (rw c.saturating_sub.ensures at c.min-there.ensures) c.are_zero.ensures
