use Rattle.grammar.proofs.ReadLaws.{pieces}
use Rattle.engine.proofs.read.on_piece.Goals as goal

pub returns-then-mode-eq-OVER : goal.returns-then-mode-eq-OVER
returns-then-mode-eq-OVER c = search pieces

pub returns-then-mode-eq-BEGUN : goal.returns-then-mode-eq-BEGUN
returns-then-mode-eq-BEGUN c = search pieces

pub returns-then-mode-eq-ENDED : goal.returns-then-mode-eq-ENDED
returns-then-mode-eq-ENDED c = search pieces

pub returns-then-s-eq0 : goal.returns-then-s-eq0
returns-then-s-eq0 c = search pieces

pub returns : goal.returns
returns c = search pieces
