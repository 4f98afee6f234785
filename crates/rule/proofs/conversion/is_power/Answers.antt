use Rattle.tables.proofs.WordLaws.{power-is}
use Rattle.rule.proofs.conversion.is_power.Goals as goal

pub returns : goal.returns
returns c =
    let a = c in
    power-is a.args.b _ _ _ _ _ _ _ a.ranges.b.sfits c.is_same.ensures c.is_same-2.ensures
    c.is_same-3.ensures c.is_same-4.ensures c.is_same-5.ensures c.is_same-6.ensures c.is_same-7.ensures
