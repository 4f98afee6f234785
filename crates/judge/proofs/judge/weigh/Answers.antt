-- `judge::judge::weigh` meets its contract. Assumes nothing.
use Rattle.place.proofs.Weights.{weights}
use Rattle.judge.proofs.judge.weigh.Goals as goal

pub returns-then-total-gt-ELEMENTS : goal.returns-then-total-gt-ELEMENTS
returns-then-total-gt-ELEMENTS c = search weights

pub returns-then-are_inside : goal.returns-then-are_inside
returns-then-are_inside c = search weights

pub returns : goal.returns
returns c = search weights
