use Rattle.tables.proofs.LoopLaws.{object-few}
use Rattle.rule.proofs.rule.keep_objects.Goals as goal

pub all_below-requires : goal.all_below-requires
all_below-requires c i h = let few = object-few _ _ i c.count_of.ensures h in search few
