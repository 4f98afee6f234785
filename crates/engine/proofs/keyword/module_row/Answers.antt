use Rattle.grammar.proofs.Beginnings.{modules}
use Rattle.engine.proofs.keyword.module_row.Goals as goal

pub returns-in-7-clause-found : goal.returns-in-7-clause-found
returns-in-7-clause-found c = search modules

pub returns-in-8-clause-found : goal.returns-in-8-clause-found
returns-in-8-clause-found c = search modules

pub returns-in-10-clause-found : goal.returns-in-10-clause-found
returns-in-10-clause-found c = search modules

pub returns-in_default-clause-found : goal.returns-in_default-clause-found
returns-in_default-clause-found c = search modules
