use Rattle.text.proofs.TokenLaws.{name-tokens}
use Rattle.text.proofs.cursor.Cursor.name.Goals as goal

pub overflow_sub-e : goal.overflow_sub-e
overflow_sub-e c = search name-tokens

pub returns-then-token_ends : goal.returns-then-token_ends
returns-then-token_ends c = search name-tokens

pub returns : goal.returns
returns c = search name-tokens
