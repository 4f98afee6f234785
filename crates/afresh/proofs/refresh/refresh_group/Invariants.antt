-- `afresh::refresh::refresh_group` meets its contract. Assumes nothing.
use Prim.Native.Nat.{◌+◌}
use Rattle.look.specs.Calls.{kept}
use Rattle.look.specs.Steps.{picked}
use Rattle.afresh.proofs.RefreshLaws.{InGroup}
use Rattle.afresh.proofs.refresh.refresh_group.Given as goal

abbrev pub invariant-loop-i : goal.invariant-loop-i
invariant-loop-i l =
    InGroup (picked l.t l.lo (l.lo + l.many) l.all) l.t l.image l.g l.k l.n l.i (kept l.image l.initial.raw l.initial.state l.initial.first l.initial.second) (kept l.image l.raw l.state l.first l.second)
