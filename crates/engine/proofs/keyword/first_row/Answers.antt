use Rattle.grammar.proofs.Beginnings.{beginnings}
use Rattle.engine.proofs.keyword.first_row.Goals as goal

pub returns-in-3-clause-found : goal.returns-in-3-clause-found
returns-in-3-clause-found c = search beginnings

pub returns-in-4-clause-found : goal.returns-in-4-clause-found
returns-in-4-clause-found c = search beginnings

pub returns-in-5-clause-found : goal.returns-in-5-clause-found
returns-in-5-clause-found c = search beginnings

pub returns-in-6-clause-found : goal.returns-in-6-clause-found
returns-in-6-clause-found c = search beginnings

pub returns-in-7-clause-found : goal.returns-in-7-clause-found
returns-in-7-clause-found c = search beginnings

pub returns-in-8-clause-found : goal.returns-in-8-clause-found
returns-in-8-clause-found c = search beginnings

pub returns-in-9-clause-found : goal.returns-in-9-clause-found
returns-in-9-clause-found c = search beginnings

pub returns-in-10-clause-found : goal.returns-in-10-clause-found
returns-in-10-clause-found c = search beginnings

pub returns-in-255-clause-found : goal.returns-in-255-clause-found
returns-in-255-clause-found c = search beginnings

pub returns-in_default-clause-found : goal.returns-in_default-clause-found
returns-in_default-clause-found c = search beginnings
