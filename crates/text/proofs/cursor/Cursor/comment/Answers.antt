use Rattle.text.proofs.BlankLaws.{comments}
use Rattle.text.proofs.cursor.Cursor.comment.Goals as goal

pub returns-then-s-at : goal.returns-then-s-at
returns-then-s-at c = search comments

pub loop-i-init : goal.loop-i-init
loop-i-init c = search comments

pub returns-then-pair_at : goal.returns-then-pair_at
returns-then-pair_at c = search comments

pub loop-i-preserved : goal.loop-i-preserved
loop-i-preserved c = search comments

pub returns : goal.returns
returns c = search comments
