use Rattle.std.proofs.Common.{rules, refl}
use Rattle.tables.proofs.All.{all_none}
use Rattle.tables.proofs.LoopLaws.{all-on, all-stop}
use Rattle.rule.proofs.below.all_below.Goals as goal

pub loop-i-init : goal.loop-i-init
loop-i-init g c f h = all_none f

pub returns-then-not-keeps : goal.returns-then-not-keeps
returns-then-not-keeps g c f h = all-stop f _ c.loop-i.i _ c.keeps.result refl c.loop-i-test.true (h c.loop-i.i c.keeps.result c.loop-i-test.true c.keeps.ensures) (search rules)

pub loop-i-preserved : goal.loop-i-preserved
loop-i-preserved g c f h = all-on f c.loop-i.i c.keeps.result (c.loop-i.invariant f h) (h c.loop-i.i c.keeps.result c.loop-i-test.true c.keeps.ensures) (search rules)
