-- `afresh::refresh::refresh` meets its contract. Assumes nothing.
use Prim.Native.Nat.{◌+◌}
use Rattle.look.specs.Calls.{kept}
use Rattle.look.specs.Steps.{picked}
use Rattle.afresh.proofs.RefreshLaws.{InList}
use Rattle.afresh.proofs.refresh.refresh.Given as goal

abbrev pub invariant-loop-g : goal.invariant-loop-g
invariant-loop-g l =
    InList (picked l.t l.lo (l.lo + l.many) l.all) l.t l.image (kept l.image l.initial.raw l.initial.state l.initial.first l.initial.second) l.n l.g l.k (kept l.image l.raw l.state l.first l.second)
