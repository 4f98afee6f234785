-- `judge::align::word_for` meets its contract. Assumes nothing.
use Rattle.place.proofs.Aligns.{words}
use Rattle.judge.proofs.align.word_for.Goals as goal

pub returns-in-1 : goal.returns-in-1
returns-in-1 c = search words

pub returns-in-2 : goal.returns-in-2
returns-in-2 c = search words

pub returns-in_default : goal.returns-in_default
returns-in_default c = search words
