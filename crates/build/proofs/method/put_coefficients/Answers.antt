use native.Mathlib.Omega.{arith}
use Rattle.build.proofs.MethodLaws.{coefficients-are, handed}
use Rattle.build.proofs.method.put_coefficients.Goals as goal

pub returns : goal.returns
returns c =
    let s = c in
    let k = s.args.k in
    coefficients-are s.args.m k _ _ _ _ _ _ _ _ _
    c.put_whole.ensures
    c.put_whole-2.ensures
    c.put_whole-3.ensures
    c.put_whole-4.ensures
    (handed k.b (omega arith))
    (handed k.c (omega arith))
    (handed k.e (omega arith))
    (handed k.f (omega arith))
