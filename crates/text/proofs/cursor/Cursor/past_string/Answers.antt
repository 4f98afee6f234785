use Rattle.text.proofs.TokenLaws.{strings}
use Rattle.text.proofs.cursor.Cursor.past_string.Goals.{then-pair_at, else-pair_at}
use Rattle.text.proofs.cursor.Cursor.past_string.Goals as goal

pub returns-then-s-at : goal.returns-then-s-at
returns-then-s-at c = search strings

pub loop-i-init : goal.loop-i-init
loop-i-init c = search strings

pub loop-i-preserved-then-pair_at-2 : goal.loop-i-preserved-then-pair_at-2
loop-i-preserved-then-pair_at-2 c = search strings

pub returns-then-s-i-eq34 : goal.returns-then-s-i-eq34
returns-then-s-i-eq34 c = elim c.if-pair_at.branch [ then-pair_at w ↦ cc | else-pair_at w ↦ search strings ]

pub loop-i-preserved : goal.loop-i-preserved
loop-i-preserved c = search strings

pub returns : goal.returns
returns c = search strings
