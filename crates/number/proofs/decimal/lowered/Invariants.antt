-- `lowered` meets its contract. The loop keeps the number of the smallest power.
use mathlib.Core.Path.{◌≡◌}
use Prim.Native.Nat.{◌-◌}
use Rattle.number.specs.Decimal.{lowest}
use Rattle.number.proofs.decimal.lowered.Given as goal

abbrev pub invariant-loop-k : goal.invariant-loop-k
invariant-loop-k l = lowest l.negative l.m (l.t - l.k) ≡ lowest l.negative l.n l.t
