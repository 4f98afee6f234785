-- `judged` meets its contract.
use Rattle.number.proofs.Forms.{judges}
use Rattle.number.proofs.decimal.judged.Goals as goal

pub returns-then-whole-gt-MOST_WHOLE : goal.returns-then-whole-gt-MOST_WHOLE
returns-then-whole-gt-MOST_WHOLE c = search judges

pub returns-then-tens-gt-MOST_AFTER : goal.returns-then-tens-gt-MOST_AFTER
returns-then-tens-gt-MOST_AFTER c = search judges

pub returns : goal.returns
returns c = search judges
