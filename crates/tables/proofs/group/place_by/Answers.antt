use borrow.Author.Rules.{rules}
use native.Mathlib.Omega.{arith}
use Rattle.tables.proofs.GroupLaws.{place-fits}
use Rattle.tables.proofs.group.place_by.Goals as goal

pub overflow_mul-result : goal.overflow_mul-result
overflow_mul-result c =
    let a = c.args in
    omega (arith, place-fits a.s.kind a.s.walk a.s.x a.s.wide a.s.high a.i c.position_of-at.result c.type_bytes.result c.position_of-at.ensures c.type_bytes.ensures (search rules) (search rules) (search rules) (search rules))

pub overflow_add-result : goal.overflow_add-result
overflow_add-result c =
    let a = c.args in
    omega (arith, place-fits a.s.kind a.s.walk a.s.x a.s.wide a.s.high a.i c.position_of-at.result c.type_bytes.result c.position_of-at.ensures c.type_bytes.ensures (search rules) (search rules) (search rules) (search rules))
