-- `judge::judge::judge_object` meets its contract. Assumes nothing.
use Rattle.place.proofs.Weights.{judgements}
use Rattle.judge.proofs.judge.judge_object.Goals as goal

pub returns-in_err-s : goal.returns-in_err-s
returns-in_err-s c = search judgements

pub returns : goal.returns
returns c = search judgements
