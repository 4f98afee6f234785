use Rattle.refer.proofs.Laws.{references}
use Rattle.refer.proofs.reference_of.Goals as goal

pub returns-then-e-eq0 : goal.returns-then-e-eq0
returns-then-e-eq0 c = search references

pub returns-then-x-a : goal.returns-then-x-a
returns-then-x-a c = search references

pub returns : goal.returns
returns c = search references
