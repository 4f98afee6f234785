-- `whole_in` meets its contract.
use Rattle.number.proofs.Bytes.{run-none, run_is}
use Rattle.number.proofs.ExponentLaws.{handed}
use Rattle.runs.proofs.whole.whole_in.Goals as goal

pub returns-in_err-run : goal.returns-in_err-run
returns-in_err-run c = rw (handed _ c.from_residual.ensures.0) (run-none _ _ _ _ (rw c.in_err-run.ensures.ok_part at c.get.ensures.lookup.0))

pub returns : goal.returns
returns c =
    let found = rw c.in_ok-run.ensures.ok_part at c.get.ensures.lookup.0 in
    run_is _ _ _ _ _ _ found.0 found.1 found.2 c.whole_of.ensures
