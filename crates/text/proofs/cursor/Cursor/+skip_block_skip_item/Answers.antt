use Rattle.std.proofs.Common.{arith}
use Rattle.std.proofs.lemmas.Result.{err_from_is_err_and}
use Rattle.text.proofs.SkipLaws.{blocks, block_on, block_closed, block_refused, skip-deep, skip-untagged, skip-inner, skip-inner-refused}
use Rattle.text.proofs.ByteLaws.{via}
use Rattle.text.proofs.cursor.Cursor.+skip_block_skip_item.Goals as goal

pub skip_block-returns-then-is_a2ml : goal.skip_block-returns-then-is_a2ml
skip_block-returns-then-is_a2ml t c = search blocks

pub skip_block-loop-c-init : goal.skip_block-loop-c-init
skip_block-loop-c-init t c = search blocks

pub skip_block-returns-in_err-past : goal.skip_block-returns-in_err-past
skip_block-returns-in_err-past t c = let p = err_from_is_err_and c.from_residual.result c.from_residual.ensures.1 in rw (p.1, p.2) (block_refused c.args.depth c.args.s.now c.args.from c.args.self.at (via c.is_a2ml.ensures c.if-is_a2ml.false) _ c.loop-c.invariant c.loop-c-test.true _ c.skip_item.ensures _ c.in_err-past.was)

pub skip_block-loop-c-smaller : goal.skip_block-loop-c-smaller
skip_block-loop-c-smaller t c = search blocks

pub skip_block-loop-c-preserved : goal.skip_block-loop-c-preserved
skip_block-loop-c-preserved t c = block_on c.args.depth c.args.s.now c.args.from c.args.self.at (via c.is_a2ml.ensures c.if-is_a2ml.false) _ c.loop-c.invariant c.loop-c-test.true _ c.skip_item.ensures _ _ c.in_ok-past.was c.in-Past.is

pub skip_block-returns-in-Closes : goal.skip_block-returns-in-Closes
skip_block-returns-in-Closes t c = block_closed c.args.depth c.args.s.now c.args.from c.args.self.at (via c.is_a2ml.ensures c.if-is_a2ml.false) _ c.loop-c.invariant c.loop-c-test.true _ c.skip_item.ensures _ _ _ c.in_ok-past.was c.in-Closes.is c.closing.ensures

pub skip_block-returns : goal.skip_block-returns
skip_block-returns t c = search blocks

pub skip_item-returns-then-depth-eq0 : goal.skip_item-returns-then-depth-eq0
skip_item-returns-then-depth-eq0 t c = skip-deep c.args.depth c.args.s.now c.args.self.at _ c.item.ensures _ c.in_ok-start.was _ _ c.in-Begin.is (omega arith)

pub skip_item-returns-in_err-tag-in-Begin : goal.skip_item-returns-in_err-tag-in-Begin
skip_item-returns-in_err-tag-in-Begin t c = let p = err_from_is_err_and c.from_residual-in_err-tag-in-Begin.result c.from_residual-in_err-tag-in-Begin.ensures.1 in rw (p.1, p.2) (skip-untagged c.args.depth c.args.s.now c.args.self.at _ c.item.ensures _ c.in_ok-start.was _ _ c.in-Begin.is (omega arith) _ c.tag.ensures _ c.in_err-tag-in-Begin.was)

pub skip_item-returns-in_err-past-in-Begin : goal.skip_item-returns-in_err-past-in-Begin
skip_item-returns-in_err-past-in-Begin t c = let p = err_from_is_err_and c.from_residual-in_err-past-in-Begin.result c.from_residual-in_err-past-in-Begin.ensures.1 in rw (p.1, p.2) (skip-inner-refused c.args.depth c.args.s.now c.args.self.at _ c.item.ensures _ c.in_ok-start.was _ _ c.in-Begin.is (omega arith) _ c.tag.ensures _ c.in_ok-tag-in-Begin.was _ c.skip_block.ensures _ c.in_err-past-in-Begin.was)

pub skip_item-returns-in_ok-past-in-Begin : goal.skip_item-returns-in_ok-past-in-Begin
skip_item-returns-in_ok-past-in-Begin t c = skip-inner c.args.depth c.args.s.now c.args.self.at _ c.item.ensures _ c.in_ok-start.was _ _ c.in-Begin.is (omega arith) _ c.tag.ensures _ c.in_ok-tag-in-Begin.was _ c.skip_block.ensures _ c.in_ok-past-in-Begin.was
