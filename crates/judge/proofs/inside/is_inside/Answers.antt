-- `judge::inside::is_inside` meets its contract. Assumes nothing.
use Rattle.place.proofs.Counts.{insides}
use Rattle.judge.proofs.inside.is_inside.Goals as goal

pub returns-then-at-from : goal.returns-then-at-from
returns-then-at-from c = search insides

pub returns-then-len-bytes : goal.returns-then-len-bytes
returns-then-len-bytes c = search insides

pub returns : goal.returns
returns c = search insides
