-- `raw_typed` meets its contract.
use Rattle.std.proofs.Common.{sym}
use Rattle.ask.proofs.Typings.{ok-some, ok-none, raw-none, raw-low, raw-given, raws}
use Rattle.ask.proofs.typed.raw_typed.Goals as goal

pub returns-in_err-n : goal.returns-in_err-n
returns-in_err-n c = rw c.from_residual.ensures (raw-none _ _ c.is_minus-negative.ensures _ c.size_of.ensures _ (ok-none _ (sym c.in_err-n.ensures.value)))

pub with_sign-requires : goal.with_sign-requires
with_sign-requires c = raw-low _ _ c.is_minus-negative.ensures _ c.size_of.ensures _ (ok-some _ _ (sym c.in_ok-n.ensures.value))

pub returns : goal.returns
returns c =
    let n = ok-some _ _ (sym c.in_ok-n.ensures.value) in
    let given = raw-given _ _ c.is_minus-negative.ensures _ c.size_of.ensures _ n in
    search (raws, given)
