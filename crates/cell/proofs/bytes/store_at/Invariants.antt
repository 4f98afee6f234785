-- `cell::bytes::store_at` meets its contract. The loop's invariant: what is left to store gives the image that storing all of it gives. Assumes nothing.
use mathlib.Core.Path.{◌≡◌}
use Prim.Native.Nat.{◌-◌}
use Rattle.cell.proofs.Stored.{storing}
use Rattle.cell.proofs.bytes.store_at.Given as goal

abbrev pub invariant-loop-i : goal.invariant-loop-i
invariant-loop-i l =
    storing l.first l.at l.width (l.width - l.i) l.m l.s ≡ storing l.first l.at l.width l.width l.n l.initial.s
