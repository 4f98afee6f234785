use Rattle.std.proofs.Common.{rules}
use Rattle.tables.proofs.LoopLaws.{clear-done, clears}
use Rattle.rule.proofs.unused.are_zero.Goals as goal

pub loop-k-init : goal.loop-k-init
loop-k-init c = search clears

pub loop-k-preserved : goal.loop-k-preserved
loop-k-preserved c = search clears

pub returns : goal.returns
returns c = let a = c.args in let v = c.loop-k in clear-done a.t.now a.from a.many c.min-there.result v.k v.bits (rw c.saturating_sub.ensures at c.min-there.ensures) (search rules) (search rules) v.invariant
