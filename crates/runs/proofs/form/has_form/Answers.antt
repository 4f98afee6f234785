-- `has_form` meets its contract.
use Rattle.number.proofs.FormLaws.{form-none, form-run}
use Rattle.runs.proofs.form.has_form.Goals as goal

pub returns-in-Some : goal.returns-in-Some
returns-in-Some c = let found = c.in-Some.ensures.lookup.0 in form-run _ _ _ _ _ found.0 found.1 found.2 c.is_formed.ensures

pub returns-in-None : goal.returns-in-None
returns-in-None c = form-none _ _ _ c.in-None.ensures.lookup.0
