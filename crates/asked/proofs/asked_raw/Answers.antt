-- `asked_raw` meets its contract.
use Rattle.std.proofs.Common.{rules}
use Rattle.std.proofs.lemmas.Result.{err_from_is_err_and}
use Rattle.asked.proofs.WithinLaws.{asked-refused, asked-inside, asked-outside}
use Rattle.asked.proofs.asked_raw.Goals as goal

pub returns-in_err-raw : goal.returns-in_err-raw
returns-in_err-raw c =
    let handed = err_from_is_err_and c.from_residual.result c.from_residual.ensures.1 in
    rw (handed.1, handed.2) (asked-refused _ _ _ _ _ _ _ _ c.rounded_raw.ensures _ c.in_err-raw.was)

pub returns-then-means_within : goal.returns-then-means_within
returns-then-means_within c =
    asked-inside _ _ _ _ _ _ _ _ c.rounded_raw.ensures _ _ c.in_ok-raw.was (search rules) c.means_within.ensures c.if-means_within.true

pub returns : goal.returns
returns c = asked-outside _ _ _ _ _ _ _ _ c.rounded_raw.ensures _ _ c.in_ok-raw.was (search rules) c.means_within.ensures c.if-means_within.false
