use Rattle.text.proofs.TokenLaws.{runs}
use Rattle.text.proofs.cursor.Cursor.past_run.Goals as goal

pub loop-i-init : goal.loop-i-init
loop-i-init c = search runs

pub returns-then-token_ends : goal.returns-then-token_ends
returns-then-token_ends c = search runs

pub returns-then-not-is_allowed : goal.returns-then-not-is_allowed
returns-then-not-is_allowed c = search runs

pub loop-i-preserved : goal.loop-i-preserved
loop-i-preserved c = search runs

pub returns : goal.returns
returns c = search runs

pub loop-i-preserved-then-is_inner : goal.loop-i-preserved-then-is_inner
loop-i-preserved-then-is_inner c = search runs
