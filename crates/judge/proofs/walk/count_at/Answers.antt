-- `judge::walk::count_at` meets its contract. Assumes nothing.
use Rattle.place.proofs.Counts.{counts-at}
use Rattle.judge.proofs.walk.count_at.Goals as goal

pub overflow_sub-place : goal.overflow_sub-place
overflow_sub-place c = search counts-at

pub returns-then-is_inside : goal.returns-then-is_inside
returns-then-is_inside c = search counts-at

pub returns : goal.returns
returns c = search counts-at
