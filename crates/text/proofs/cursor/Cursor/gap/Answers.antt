use Rattle.text.proofs.BlankLaws.{gaps}
use Rattle.text.proofs.cursor.Cursor.gap.Goals.{then-s-at-via-then-s-at, then-s-at-via-else-s-at+then-is_inner}
use Rattle.text.proofs.cursor.Cursor.gap.Goals as goal

pub returns-then-s-at : goal.returns-then-s-at
returns-then-s-at c = elim c.then-s-at.branch [ then-s-at-via-then-s-at w ↦ search gaps | then-s-at-via-else-s-at+then-is_inner w ↦ search gaps ]
