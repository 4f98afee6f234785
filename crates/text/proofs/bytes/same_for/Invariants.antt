use Rattle.text.specs.Bytes.{same_for}
use Rattle.text.proofs.ByteLaws.{SameBack}
use Rattle.text.proofs.bytes.same_for.Given as goal

abbrev pub invariant-loop-i : goal.invariant-loop-i
invariant-loop-i l = SameBack l.s l.k l.w l.j l.n (same_for l.n l.s l.k l.w l.j) l.i
