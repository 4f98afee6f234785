-- `rounded_raw` meets its contract.
use Rattle.std.proofs.lemmas.Result.{err_from_is_err_and}
use Rattle.std.proofs.Common.{rules}
use Rattle.convert.proofs.AskedLaws.{asked-none, asked-fits, asked-unfit, askeds}
use Rattle.convert.proofs.asked.rounded_raw.Goals as goal

pub returns-then-d-gt-MOST_ASKED : goal.returns-then-d-gt-MOST_ASKED
returns-then-d-gt-MOST_ASKED c = search askeds

pub returns-then-not-at_most : goal.returns-then-not-at_most
returns-then-not-at_most c = search askeds

pub nearest_raw-requires : goal.nearest_raw-requires
nearest_raw-requires c = search askeds

pub returns-then-fits_raw : goal.returns-then-fits_raw
returns-then-fits_raw c =
    asked-fits _ _ _ _ _ _ _ _ c.decimal_of.ensures _ c.in-Ok.is c.if-d-gt-MOST_ASKED.false c.at_most.ensures c.at_most-2.ensures c.if-not-at_most.false _ c.nearest_raw.ensures _ _ c.in_ok-raw.was (search rules) c.fits_raw.ensures
    c.if-fits_raw.true

pub returns : goal.returns
returns c =
    asked-unfit _ _ _ _ _ _ _ _ c.decimal_of.ensures _ c.in-Ok.is c.if-d-gt-MOST_ASKED.false c.at_most.ensures c.at_most-2.ensures c.if-not-at_most.false _ c.nearest_raw.ensures _ _ c.in_ok-raw.was (search rules) c.fits_raw.ensures
    c.if-fits_raw.false

pub returns-in_default : goal.returns-in_default
returns-in_default c = search askeds

pub returns-in_err-raw : goal.returns-in_err-raw
returns-in_err-raw c =
    let handed = err_from_is_err_and c.from_residual.result c.from_residual.ensures.1 in
    rw (handed.1, handed.2) (asked-none _ _ _ _ _ _ _ _ c.decimal_of.ensures _ c.in-Ok.is c.if-d-gt-MOST_ASKED.false c.at_most.ensures c.at_most-2.ensures c.if-not-at_most.false _ c.nearest_raw.ensures _ c.in_err-raw.was)
