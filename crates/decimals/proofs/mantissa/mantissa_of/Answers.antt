-- `mantissa_of` meets its contract.
use Rattle.std.proofs.Common.{arith}
use Rattle.number.proofs.ExponentLaws.{handed}
use Rattle.decimals.proofs.MantissaLaws.{kept_small, after_small, next-few, run-over, run_none, run_end_lem, run-other, two-over, two_past, two_none, two-end}
use Rattle.decimals.proofs.mantissa.mantissa_of.Goals as goal

pub returns-in_err-first : goal.returns-in_err-first
returns-in_err-first c = rw (handed _ c.from_residual.ensures.0) (run-over _ _ _ _ c.sign_len-a.ensures.0 c.is_minus-negative.ensures c.in_err-first.ensures)

pub returns-then-end-a : goal.returns-then-end-a
returns-then-end-a c = run_none _ _ _ _ c.sign_len-a.ensures.0 c.is_minus-negative.ensures _ c.in_ok-first.ensures c.if-end-a.true

pub made_of-requires : goal.made_of-requires
made_of-requires c =
    let start = c in (
      c.in_ok-first.ensures.most,
      kept_small _ _ _ _ c.in_ok-first.ensures c.sign_len-a.ensures.1 start.well_formed.0.1,
      after_small _ _ _ _ c.in_ok-first.ensures _ c.sign_len-a.ensures.1 start.well_formed.0.1,
      omega arith,
    )

pub returns-then-s-end : goal.returns-then-s-end
returns-then-s-end c = run_end_lem _ _ _ _ c.sign_len-a.ensures.0 c.is_minus-negative.ensures _ c.in_ok-first.ensures _ c.if-end-a.false c.if-s-end.true c.made_of.ensures

pub returns-then-s-end-ne46 : goal.returns-then-s-end-ne46
returns-then-s-end-ne46 c = run-other _ _ _ _ c.sign_len-a.ensures.0 c.is_minus-negative.ensures _ c.in_ok-first.ensures c.if-s-end.false c.if-s-end-ne46.true

pub returns-in_err-second : goal.returns-in_err-second
returns-in_err-second c =
    rw (handed _ c.from_residual-in_err-second.ensures.0) (two-over _ _ _ _ c.sign_len-a.ensures.0 c.is_minus-negative.ensures _ c.in_ok-first.ensures c.if-s-end.false c.if-s-end-ne46.false c.in_err-second.ensures)

pub returns-then-second-s : goal.returns-then-second-s
returns-then-second-s c = two_past _ _ _ _ c.sign_len-a.ensures.0 c.is_minus-negative.ensures _ c.in_ok-first.ensures c.if-s-end.false c.if-s-end-ne46.false _ c.in_ok-second.ensures c.if-second-s.true

pub returns-then-f-eq0 : goal.returns-then-f-eq0
returns-then-f-eq0 c =
    two_none _ _ _ _ c.sign_len-a.ensures.0 c.is_minus-negative.ensures _ c.in_ok-first.ensures c.if-s-end.false c.if-s-end-ne46.false _ c.in_ok-second.ensures c.if-second-s.false c.if-f-eq0.true

pub made_of-requires-2 : goal.made_of-requires-2
made_of-requires-2 c =
    let start = c in
    let few = next-few _ _ c.if-s-end.false in (
      c.in_ok-second.ensures.most,
      kept_small _ _ _ _ c.in_ok-second.ensures few start.well_formed.0.1,
      after_small _ _ _ _ c.in_ok-first.ensures _ c.sign_len-a.ensures.1 start.well_formed.0.1,
      after_small _ _ _ _ c.in_ok-second.ensures _ few start.well_formed.0.1,
    )

pub returns : goal.returns
returns c =
    two-end _ _ _ _ c.sign_len-a.ensures.0 c.is_minus-negative.ensures _ c.in_ok-first.ensures c.if-s-end.false c.if-s-end-ne46.false _ c.in_ok-second.ensures c.if-second-s.false _ c.if-end-a.false c.if-f-eq0.false
    c.made_of-2.ensures
