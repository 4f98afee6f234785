use Rattle.grammar.proofs.ParameterLaws.{havings, having-on}
use Rattle.grammar.specs.Move.{view_in}
use Rattle.grammar.proofs.parameter.has_number.Goals as goal

pub returns-then-slot_of-sign : goal.returns-then-slot_of-sign
returns-then-slot_of-sign c = search havings

pub loop-i-preserved : goal.loop-i-preserved
loop-i-preserved c = having-on (view_in c.args.t.now) _ _ _ _ c.count_of-count.ensures c.loop-i.invariant c.loop-i-test.true _ _ c.slot_of.ensures c.slot_of-in-loop-i.ensures c.if-slot_of-sign.false

pub returns : goal.returns
returns c = search havings
