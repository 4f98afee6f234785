-- `judge::align::align_of` meets its contract. Assumes nothing.
use Rattle.place.proofs.Aligns.{words}
use Rattle.judge.proofs.align.align_of.Goals as goal

pub returns-then-word-eq0 : goal.returns-then-word-eq0
returns-then-word-eq0 c = search words

pub returns : goal.returns
returns c = search words
