use Rattle.text.proofs.BlankLaws.{token-ends}
use Rattle.text.proofs.blank.token_ends.Goals as goal

pub returns-then-is_inner : goal.returns-then-is_inner
returns-then-is_inner c = search token-ends
