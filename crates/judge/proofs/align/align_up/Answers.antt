-- `judge::align::align_up` meets its contract. Assumes nothing.
use Rattle.place.proofs.Aligns.{ups}
use Rattle.judge.proofs.align.align_up.Goals as goal

pub returns-then-align-eq0 : goal.returns-then-align-eq0
returns-then-align-eq0 c = search ups

pub returns : goal.returns
returns c = search ups
