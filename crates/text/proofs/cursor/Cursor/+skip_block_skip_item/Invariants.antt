-- The cycle of calls of skip_block and skip_item. An item asks less than the block that holds it, and a block inside less than its item:
-- the measure is twice the depth, and one more for a block.
use Rattle.std.proofs.Common.{length, ◌-◌, ◌+◌}
use Rattle.text.proofs.SkipLaws.{InBlock}
use Rattle.text.proofs.cursor.Cursor.+skip_block_skip_item.Given as goal

abbrev pub decreases-skip_block : goal.decreases-skip_block
decreases-skip_block l = l.depth + l.depth + 1

abbrev pub decreases-skip_item : goal.decreases-skip_item
decreases-skip_item l = l.depth + l.depth

abbrev pub invariant-skip_block-loop-c : goal.invariant-skip_block-loop-c
invariant-skip_block-loop-c l = InBlock l.depth l.s l.from l.fn.self.at l.c.at

abbrev pub decreases-skip_block-loop-c : goal.decreases-skip_block-loop-c
decreases-skip_block-loop-c l = length l.s - l.c.at
