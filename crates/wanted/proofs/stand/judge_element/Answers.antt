-- `wanted::stand::judge_element` meets its contract. Assumes nothing.
use Rattle.wanted.proofs.StandLaws.{frees}
use Rattle.wanted.proofs.stand.judge_element.Goals as goal

pub returns-then-is_forbidden : goal.returns-then-is_forbidden
returns-then-is_forbidden c = search frees

pub returns-then-is_on_count : goal.returns-then-is_on_count
returns-then-is_on_count c = search frees

pub returns : goal.returns
returns c = search frees
